mod CallFacts

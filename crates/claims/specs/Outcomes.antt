-- One step after another, each of which may be refused.
use Rattle.std.specs.Prelude.{Result, Ok, Err}

-- the next step's answer, unless this step is refused
infixl 10 ◌>>=◌
abbrev pub ◌>>=◌ : {A B K : Type 0} → Result A K → (A → Result B K) → Result B K
(Ok a) >>= f = f a
(Err kind) >>= f = Err kind

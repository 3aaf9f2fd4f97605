use Rattle.std.proofs.Common.{◌≡◌, map, arith, sym, ◌∙◌, ap, subst}
use Rattle.std.proofs.lemmas.List.{take_all}
use Rattle.life_strip.specs.Blocks.{AreRowBlocks, cell_in_blocks}
use Rattle.life_strip.proofs.RowWordLemmas.{block_of_word, blocks-of-words, cells-of-words}
use Rattle.life_strip.proofs.blocks.blocks_of_words.Goals as goal
use Rattle.life_strip.proofs.blocks.blocks_of_words.Goals.{After-loop-word}

all-blocks : (c : After-loop-word) → c.loop-word.all.items ≡ map block_of_word c.args.words.now
all-blocks c =
    c.loop-word.invariant.blocks
    ∙ ap (map block_of_word) (take_all c.loop-word.word-index c.args.words.now (omega arith))

pub returns-clause-blocks : goal.returns-clause-blocks
returns-clause-blocks c =
    subst AreRowBlocks (sym (all-blocks (goal.at.returns-clause-blocks c).After-loop-word))
    (blocks-of-words c.args.words.now c.requires.words)

pub returns-clause-cells : goal.returns-clause-cells
returns-clause-cells c column =
    ap (λ z. cell_in_blocks z column) (all-blocks (goal.at.returns-clause-cells c).After-loop-word)
    ∙ cells-of-words c.args.words.now c.requires.words column

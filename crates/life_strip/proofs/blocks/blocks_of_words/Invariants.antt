use Rattle.std.proofs.Common.{◌≡◌, ◌≤◌, length, map, take}
use Rattle.std.specs.Vec.{vec_len, vec_capacity}
use Rattle.life_strip.proofs.RowWordLemmas.{block_of_word}
use Rattle.life_strip.proofs.blocks.blocks_of_words.Given as goal

abbrev pub invariant-loop-word : goal.invariant-loop-word
invariant-loop-word l = record {
  blocks : l.all.items ≡ map block_of_word (take l.word-index l.words);
  len : vec_len l.all ≡ l.word-index;
  space : length l.words ≤ vec_capacity l.all;
}

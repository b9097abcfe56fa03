use Rattle.std.proofs.Common.{◌≡◌, ◌*◌, length}
use Rattle.text.specs.Put.{SameBuffer}
use Rattle.listing.proofs.Walk.{Walk}
use Rattle.listing.proofs.code.list_words.Given as goal

abbrev pub invariant-loop-word : goal.invariant-loop-word
invariant-loop-word l = record {
  walk : Walk l.at l.code l.initial.text.out.now l.text.out.now l.used l.text.len;
  place : l.used ≡ 4 * l.word-index;
  line : length l.line ≡ length l.initial.line;
  buffer : SameBuffer l.initial.text l.text;
}

use Rattle.std.proofs.Common.{◌≡◌, ◌%◌, ◌≤◌, length}
use Rattle.machine.specs.Listing.{lines_of}
use Rattle.stream.specs.Whole.{Owes}
use Rattle.stream.proofs.list_words.Given as goal

abbrev pub invariant-loop-rest : goal.invariant-loop-rest
invariant-loop-rest g l = record {
  owed : Owes (g.W.Write.contents l.initial.output) (g.W.Write.contents l.output) (lines_of l.initial.at l.code) (lines_of l.at l.rest);
  left : length l.rest % 4 ≡ length l.code % 4;
  within : length l.rest ≤ length l.code;
  text : length l.text ≡ length l.initial.text;
}

abbrev pub decreases-loop-rest : goal.decreases-loop-rest
decreases-loop-rest g l = length l.rest

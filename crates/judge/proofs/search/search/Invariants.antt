use Rattle.std.proofs.Common.{◌+◌, ◌-◌, ◌≡◌, length}
use Rattle.judge.proofs.Walk.{AtProcessor, AtKind, AtBase, AtStep}
use Rattle.judge.proofs.search.search.Given as goal

abbrev pub invariant-steps : goal.invariant-steps
invariant-steps l = (l.q ≡ l.initial.q) × AtStep l.target l.works (length l.works) l.asid l.p l.j l.leaf l.level l.k l.end l.q l.work-index l.entry

abbrev pub invariant-bases : goal.invariant-bases
invariant-bases l = AtBase l.target l.works (length l.works) l.asid l.p l.j l.leaf l.level l.k l.end l.q

abbrev pub decreases-bases : goal.decreases-bases
decreases-bases l = l.end + 1 - l.q

abbrev pub invariant-kinds : goal.invariant-kinds
invariant-kinds l = AtKind l.target l.works (length l.works) l.asid l.p l.j

abbrev pub invariant-processors : goal.invariant-processors
invariant-processors l = AtProcessor l.target l.works (length l.works) l.asid l.p

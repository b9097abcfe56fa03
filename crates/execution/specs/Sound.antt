-- What is asked of a work that is carried out.
use Rattle.std.specs.Prelude.{◌≤◌, true, ◌≡◌, Result, Ok}
use Rattle.machine.specs.Entry.{is_company}
use Rattle.machine.specs.declared.refusal.Refusal.{Refusal}
use Rattle.machine.specs.declared.work.Work.{Work}

-- its granule is a TG, which has two bits, and not 00, with which there is no work;
-- its company is one that entries can have, so a slot that has its key needs no test of that
abbrev pub IsSound : Result Work Refusal → Type 0
IsSound r = (w : Work) → r ≡ Ok w → (1 ≤ w.granule) × (w.granule ≤ 3) × (is_company w.company ≡ true)

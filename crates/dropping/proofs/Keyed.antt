-- What the key of a work says of a slot: layout number and company are an entry's.
use Prim.Native.Nat.{ℕ, ◌+◌, ◌*◌, ◌/◌, ◌%◌, ◌^◌, ◌<◌, ◌≤◌}
use mathlib.Core.Bool.{true}
use mathlib.Core.Path.{◌≡◌, ap, ◌∙◌}
use native.Mathlib.Omega.{arith}
use Rattle.machine.proofs.Tags.{company-back, key-layout}
use Rattle.machine.specs.Entry.{is_company}
use Rattle.machine.specs.Goes.{key_of}
use Rattle.machine.specs.Tag.{layout, company_tag, company_at}
use Rattle.machine.specs.declared.work.Work.{Work}

pub keyed : (w : Work) (tag : ℕ) → tag % 2 ^ 28 ≡ key_of w → company_tag w.company < 2 ^ 26 → w.company.vmid < 2 ^ 16 → w.granule ≤ 3 →
    is_company w.company ≡ true → (tag % 2 ^ 4 ≡ layout) × (is_company (company_at tag) ≡ true)
keyed w tag e low v most company =
    let more : ℕ = tag / 2 ^ 26 in
    let above : tag ≡ company_tag w.company + more * 2 ^ 26 = omega (arith, e, low, most) in
    let own : company_at tag ≡ w.company = ap company_at above ∙ company-back w.company more v in
    (omega (arith, e, key-layout w.company), ap is_company own ∙ company)

-- "m1 to m12 are one proved table with a single statement": one test that is computed over the examples, and so what each says of the calls.
use Prim.Native.Nat.{ℕ, ◌^◌, ◌<◌}
use mathlib.Core.Bool.{Bool, true, false, not, ◌&&◌}
use mathlib.Core.List.{List, [], ◌∷◌}
use mathlib.Core.Path.{◌≡◌, refl, sym, ap, ap₂, ◌∙◌}
use lib.Dec.{eqb, ltb, leb}
use borrow.Author.Tests.{eqb-true, ltb-true, leb-true, not-true}
use Rattle.std.specs.Prelude.{Option, Some, None, IfSome, Result, ⊤}
use Rattle.judge.proofs.Computed.{works_of, free_asid, named_asid, cover_at, gap_base, gap_kind, gap_processor, judged_of, judged-is}
use Rattle.judge.proofs.Targets.{Fits}
use Rattle.coverage.specs.Places.{is_asked}
use Rattle.judge.specs.Search.{entry_in}
use Rattle.laws.proofs.Truth.{and_0, and-1, clash}
use Rattle.laws.specs.Every.{every, any}
use Rattle.laws.specs.Mask.{mask_from}
use Rattle.laws.specs.Slots.{count, first, cleared}
use Rattle.machine.proofs.Tags.{entry-back}
use Rattle.machine.specs.Access.{is_barred, is_trapped, reaches, reached_of, scope_of, access_e1, access_stage2, access_of, is_unit_64k}
use Rattle.machine.specs.Answer.{number_of, trap_of, value_of, judged_number, judged_entry}
use Rattle.machine.specs.Asked.{form_of, told_of, asked_of}
use Rattle.machine.specs.Entry.{is_company, has_asids, in_reach, is_legal}
use Rattle.machine.specs.Execute.{resolved_of, executed_of, execute_table, on_work}
use Rattle.machine.specs.Goes.{work_of, goes, drops}
use Rattle.machine.specs.Judge.{leaf_at, level_at}
use Rattle.machine.specs.Operand.{address_of, hint_of, operand_of}
use Rattle.machine.specs.Range.{length_of, range_of, tlbi_exponent, is_unpredictable, ranged_of}
use Rattle.machine.specs.Span.{is_level, height_of, exponent_at, exponent_of, has_span}
use Rattle.machine.specs.State.{security_of, security_in, el2_enabled, vmid_in, hcrx_live, domains_agree, bad_board, bad_fields, bad_state}
use Rattle.machine.specs.Table.{same_company}
use Rattle.machine.specs.Tag.{company_tag, tag_of, company_at, entry_at, is_entry}
use Rattle.machine.specs.Target.{are_addresses, is_target}
use Rattle.machine.specs.Word.{row_of, read_of}
use Rattle.machine.specs.declared.entry.Entry.{Entry}
use Rattle.machine.specs.declared.judge.Target.{Target}
use Rattle.machine.specs.declared.processor.State.{State}
use Rattle.demands.proofs.Examples.{Example, range, execution, judgement, examples, Shows, All, none, more}
use Rattle.calls.specs.Promises.{Executes, Judges}
use Rattle.machine.specs.declared.refusal.Refusal.{Refusal}
use Rattle.machine.specs.declared.judge.Objection.{Objection}

-- The test.
unfoldable same : List ℕ → List ℕ → Bool
same [] [] = true
same [] (y ∷ m) = false
same (x ∷ l) [] = false
same (x ∷ l) (y ∷ m) = eqb x y && same l m

abbrev is_sized : Entry → Bool
is_sized e = ltb e.company.vmid (2 ^ 16) && ltb e.asid (2 ^ 16) && leb e.processor 7 && leb e.granule 3 && is_level e.level

abbrev same_entry : Entry → Entry → Bool
same_entry d e = is_sized d && is_sized e && eqb d.base e.base && eqb (tag_of d) (tag_of e)

abbrev is_sized_asid : Option ℕ → Bool
is_sized_asid None = true
is_sized_asid (Some n) = ltb n (2 ^ 16)

abbrev fits : State → Target → Bool
fits st t =
    ltb st.vmid (2 ^ 16)
    && ltb t.company.vmid (2 ^ 16)
    && is_sized_asid t.asid
    && ltb t.first (2 ^ 64)
    && ltb t.last (2 ^ 64)

abbrev shown : Example → Bool
shown (range st word xt start end) = not (bad_state st) && on_work (λ w. eqb w.first start && eqb w.last end) (resolved_of st word xt 0)
shown (execution st word xt l number trap dropped after) =
    eqb (number_of (executed_of st word xt 0 l)) number
    && eqb (trap_of (executed_of st word xt 0 l)) trap
    && eqb (value_of (executed_of st word xt 0 l)) dropped
    && same (execute_table st word xt 0 l) after
shown (judgement st t steps number e) =
    fits st t && eqb (judged_number (judged_of st t steps)) number && same_entry (judged_entry (judged_of st t steps)) e

unfoldable all_shown : List Example → Bool
all_shown [] = true
all_shown (e ∷ es) = shown e && all_shown es

computed : all_shown examples ≡ true
unfolding all_shown same executed_of execute_table resolved_of count cleared drops goes work_of same_company read_of row_of access_of is_barred is_trapped access_e1 access_stage2 scope_of reached_of
    reaches mask_from el2_enabled security_of security_in vmid_in hcrx_live bad_state bad_fields bad_board domains_agree every is_unit_64k asked_of form_of told_of ranged_of operand_of address_of hint_of range_of
    length_of is_unpredictable tlbi_exponent is_entry is_legal is_company has_asids in_reach has_span is_level exponent_of exponent_at height_of tag_of company_tag company_at entry_at
    judged_of gap_processor gap_kind gap_base cover_at named_asid free_asid works_of any entry_in leaf_at level_at is_asked is_target are_addresses first
computed = refl

-- what the test says
same-is : (l m : List ℕ) → same l m ≡ true → l ≡ m
unfolding same
same-is [] [] h = refl
same-is [] (y ∷ m) h = clash h refl
same-is (x ∷ l) [] h = clash h refl
same-is (x ∷ l) (y ∷ m) h = ap₂ ◌∷◌ (eqb-true x y (and_0 (eqb x y) (same l m) h)) (same-is l m (and-1 (eqb x y) (same l m) h))

sized-back : (e : Entry) → is_sized e ≡ true → entry_at e.base (tag_of e) ≡ e
sized-back e h =
    let a = ltb e.company.vmid (2 ^ 16) in
    let b = ltb e.asid (2 ^ 16) in
    let c = leb e.processor 7 in
    let d = leb e.granule 3 in
    let f = is_level e.level in
    let h3 = and_0 (a && b && c && d) f h in
    let h2 = and_0 (a && b && c) d h3 in
    let h1 = and_0 (a && b) c h2 in
    entry-back e (ltb-true e.company.vmid (2 ^ 16) (and_0 a b h1), ltb-true e.asid (2 ^ 16) (and-1 a b h1))
    (leb-true e.processor 7 (and-1 (a && b) c h2)) (leb-true e.granule 3 (and-1 (a && b && c) d h3)) (and-1 (a && b && c && d) f h)

same-entry : (d e : Entry) → same_entry d e ≡ true → d ≡ e
same-entry d e h =
    let a = is_sized d in
    let b = is_sized e in
    let base = eqb d.base e.base in
    let tag = eqb (tag_of d) (tag_of e) in
    let h2 = and_0 (a && b && base) tag h in
    let h1 = and_0 (a && b) base h2 in
    sym (sized-back d (and_0 a b h1))
    ∙ ap₂ entry_at (eqb-true d.base e.base (and-1 (a && b) base h2)) (eqb-true (tag_of d) (tag_of e) (and-1 (a && b && base) tag h))
    ∙ sized-back e (and-1 a b h1)

sized-asid : (o : Option ℕ) → is_sized_asid o ≡ true → IfSome o (λ n. n < 2 ^ 16)
sized-asid None h = tt
sized-asid (Some n) h = ltb-true n (2 ^ 16) h

target_fits : (st : State) (t : Target) → fits st t ≡ true → (st.vmid < 2 ^ 16) × Fits t
target_fits st t h =
    let a = ltb st.vmid (2 ^ 16) in
    let b = ltb t.company.vmid (2 ^ 16) in
    let c = is_sized_asid t.asid in
    let d = ltb t.first (2 ^ 64) in
    let e = ltb t.last (2 ^ 64) in
    let h3 = and_0 (a && b && c && d) e h in
    let h2 = and_0 (a && b && c) d h3 in
    let h1 = and_0 (a && b) c h2 in (
      ltb-true st.vmid (2 ^ 16) (and_0 a b h1),
      record {
        vmid = ltb-true t.company.vmid (2 ^ 16) (and-1 a b h1);
        asid = sized-asid t.asid (and-1 (a && b) c h2);
        first = ltb-true t.first (2 ^ 64) (and-1 (a && b && c) d h3);
        last = ltb-true t.last (2 ^ 64) (and-1 (a && b && c && d) e h);
      },
    )

shows : (e : Example) → shown e ≡ true → Shows e
shows (range st word xt start end) h =
    let a = not (bad_state st) in
    let b = on_work (λ w. eqb w.first start && eqb w.last end) (resolved_of st word xt 0) in
    (not-true (bad_state st) (and_0 a b h), and-1 a b h)
shows (execution st word xt l number trap dropped after) h =
    let x = executed_of st word xt 0 l in
    let a = eqb (number_of x) number in
    let b = eqb (trap_of x) trap in
    let c = eqb (value_of x) dropped in
    let d = same (execute_table st word xt 0 l) after in
    let h2 = and_0 (a && b && c) d h in
    let h1 = and_0 (a && b) c h2 in
    λ (r : Result ℕ Refusal) (m : List ℕ) (p : Executes st word xt 0 l r m). (
      ap number_of p.0 ∙ eqb-true (number_of x) number (and_0 a b h1),
      ap trap_of p.0 ∙ eqb-true (trap_of x) trap (and-1 a b h1),
      ap value_of p.0 ∙ eqb-true (value_of x) dropped (and-1 (a && b) c h2),
      p.1 ∙ same-is (execute_table st word xt 0 l) after (and-1 (a && b && c) d h),
    )
shows (judgement st t steps number e) h =
    let x = judged_of st t steps in
    let a = fits st t in
    let b = eqb (judged_number x) number in
    let c = same_entry (judged_entry x) e in
    let h1 = and_0 (a && b) c h in
    let (low, f) = target_fits st t (and_0 a b h1) in
    λ (r : Result ⊤ Objection) (v : Judges st t steps r).
    let is : r ≡ x = judged-is st t steps r low f v in
    (ap judged_number is ∙ eqb-true (judged_number x) number (and-1 a b h1), ap judged_entry is ∙ same-entry (judged_entry x) e (and-1 (a && b) c h))

all-show : (es : List Example) → all_shown es ≡ true → All Shows es
unfolding all_shown
all-show [] h = none
all-show (e ∷ es) h = more (shows e (and_0 (shown e) (all_shown es) h)) (all-show es (and-1 (shown e) (all_shown es) h))

-- m1 to m12
pub marked : All Shows examples
marked = all-show examples computed

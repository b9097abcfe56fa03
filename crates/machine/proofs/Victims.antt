-- Every operation that runs drops some entry of its own company: one at the first address of its range, on the processor that runs it.
use Prim.Native.Nat.{ℕ, zero, suc, ◌-◌, ◌/◌, ◌^◌, ◌<◌, ◌≤◌}
use mathlib.Core.Bool.{Bool, true, false, cond, not, ◌&&◌, ◌||◌}
use mathlib.Core.Path.{◌≡◌, refl, sym, ap, subst, ◌∙◌}
use native.Mathlib.Omega.{arith}
use lib.Dec.{eqb, ltb, leb}
use lib.IntN.{ℤ, pos}
use lib.Pow.{split}
use borrow.Author.Tests.{eqb-false, ltb-false, leb-false, eq-eqb, lt-ltb}
use Rattle.std.specs.Prelude.{Option, Some, None, Ok, IfSome, is_some, is_none, unwrap_or}
use Rattle.laws.proofs.Truth.{or-0, or-1, or_left, or_right, cond-self, clash}
use Rattle.laws.specs.Bits.{bits, down}
use Rattle.machine.proofs.Covered.{read-reach}
use Rattle.machine.proofs.Going.{going-holds}
use Rattle.machine.proofs.Halves.{reach-between}
use Rattle.machine.proofs.Spans.{level-self, meets-by, span-some, span-most}
use Rattle.machine.proofs.Tags.{legal-holds, company-self}
use Rattle.machine.proofs.Works.{asks, asked-ttl, resolves, fit, regime_of, is_stage2, scoped, owner, work-reached}
use Rattle.machine.specs.Access.{reaches, reaches_by, uses_asid, is_host}
use Rattle.machine.specs.Asked.{is_two_ranges, form_of, told_of}
use Rattle.machine.specs.Entry.{has_asids, in_reach, is_placed, is_same_asid, is_legal}
use Rattle.machine.specs.Execute.{resolved_of}
use Rattle.machine.specs.Goes.{is_width_of, is_at_level, goes, work_of}
use Rattle.machine.specs.Operand.{copies_top}
use Rattle.machine.specs.Range.{range_of}
use Rattle.machine.specs.Span.{is_level, height_of, exponent_at, exponent_of, has_span}
use Rattle.machine.specs.State.{is_secure, el2_enabled, vmid_in, bad_state, bad_board, bad_fields, domains_agree, e2h_of, tge_of, inner_of, outer_of}
use Rattle.machine.specs.Tag.{Sized}
use Rattle.machine.specs.Word.{family_of}
use Rattle.machine.specs.declared.entry.Entry.{Entry}
use Rattle.machine.specs.declared.operand.Form.TheVariants.{TwoRangesAsid, TwoRanges, OneRange, Stage2Ns, Stage2NoNs}
use Rattle.machine.specs.declared.operand.Range.{Range}
use Rattle.machine.specs.declared.operation.Name.{Name}
use Rattle.machine.specs.declared.operation.Name.TheVariants.{RVAE1, RVAAE1, RVALE1, RVAALE1, RVAE2, RVALE2, RVAE3, RVALE3, RIPAS2E1, RIPAS2LE1}
use Rattle.machine.specs.declared.operation.Operation.{Operation}
use Rattle.machine.specs.declared.operation.Share.{Share}
use Rattle.machine.specs.declared.operation.Share.TheVariants.{Local, Inner, Outer}
use Rattle.machine.specs.declared.processor.State.{State}
use Rattle.machine.specs.declared.scope.Regime.{Regime}
use Rattle.machine.specs.declared.scope.Regime.TheVariants.{EL10, EL20, EL2, EL3}
use Rattle.machine.specs.declared.work.Work.{Work}

-- the range starts at an address that an entry of the company can have
work-reach : (st : State) (word xt xt2 : ℕ) (w : Work) → resolved_of st word xt xt2 ≡ Ok w → in_reach w.company w.first ≡ true
unfolding work_of in_reach has_asids told_of form_of range_of
work-reach st word xt xt2 w h =
    let it = resolves st word xt xt2 w h in
    let s = it.scope in
    let o = it.operand in
    let a = asks st it.operation s xt xt2 o it.range it.asked in
    let reach = read-reach (told_of st it.operation s) _ _ o a.read in
    let two = form s.stage2 (is_secure s.security) (is_two_ranges s.regime) s.asid in
    let base : cond (is_two_ranges s.regime && not s.stage2) (eqb (bits 63 55 o.base) 0 || eqb (bits 63 55 o.base) (2 ^ 9 - 1)) (ltb o.base (2 ^ 56)) ≡ true =
    ap (λ (b : Bool). cond b (eqb (bits 63 55 o.base) 0 || eqb (bits 63 55 o.base) (2 ^ 9 - 1)) (ltb o.base (2 ^ 56))) (sym two) ∙ reach in
    subst (λ (v : Work). in_reach v.company v.first ≡ true) it.work
    (subst
    (λ (r : Range). cond (is_two_ranges s.regime && not s.stage2) (eqb (bits 63 55 r.first) 0 || eqb (bits 63 55 r.first) (2 ^ 9 - 1)) (ltb r.first (2 ^ 56)) ≡ true)
    a.range base)
  where
    form : (a b c d : Bool) → copies_top (cond a (cond b Stage2Ns Stage2NoNs) (cond c (cond d TwoRangesAsid TwoRanges) OneRange)) ≡ (c && not a)
    form true true true d = refl
    form true true false d = refl
    form true false true d = refl
    form true false false d = refl
    form false b true true = refl
    form false b true false = refl
    form false b false d = refl

-- where an ASID applies, the company has ASIDs
one-asids : (st : State) (word xt xt2 : ℕ) (w : Work) → resolved_of st word xt xt2 ≡ Ok w → is_some w.asid ≡ true → has_asids w.company ≡ true
unfolding work_of has_asids
one-asids st word xt xt2 w h =
    let it = resolves st word xt xt2 w h in
    let s = it.scope in
    let k = scoped st it.operation s it.runs in
    subst (λ (v : Work). is_some v.asid ≡ true → has_asids v.company ≡ true) it.work
    (λ (one : is_some (cond s.asid (Some it.operand.asid) None) ≡ true).
    by it.operation.name s.regime s.stage2 k.regime k.stage2 (sym k.asid ∙ applies it.operand.asid s.asid one))
  where
    applies : (n : ℕ) (b : Bool) → is_some (cond b (Some n) None) ≡ true → b ≡ true
    applies n true e = refl
    applies n false e = e

    first : (a b : Bool) → is_two_ranges (cond a EL10 (cond b EL20 EL10)) ≡ true
    first true b = refl
    first false true = refl
    first false false = refl

    apart : (g : Regime) (b : Bool) → is_two_ranges g ≡ true → b ≡ false → (is_two_ranges g && not b) ≡ true
    apart g b t f = simp (t, f)

    host : (g : Regime) → is_host g ≡ true → is_two_ranges g ≡ true
    host EL10 e = refl
    host EL20 e = refl
    host EL2 e = e
    host EL3 e = e

    by : (n : Name) (g : Regime) (b : Bool) → g ≡ regime_of (family_of n) st → b ≡ is_stage2 (family_of n) → uses_asid n g ≡ true → (is_two_ranges g && not b) ≡ true
    by RVAE1 g b e f u = apart g b (ap is_two_ranges e ∙ first (eqb st.el 1) (e2h_of st && tge_of st)) f
    by RVAAE1 g b e f u = clash u refl
    by RVALE1 g b e f u = apart g b (ap is_two_ranges e ∙ first (eqb st.el 1) (e2h_of st && tge_of st)) f
    by RVAALE1 g b e f u = clash u refl
    by RVAE2 g b e f u = apart g b (host g u) f
    by RVALE2 g b e f u = apart g b (host g u) f
    by RVAE3 g b e f u = clash u refl
    by RVALE3 g b e f u = clash u refl
    by RIPAS2E1 g b e f u = clash u refl
    by RIPAS2LE1 g b e f u = clash u refl

-- a hint names level 1, 2 or 3
record Leveled (l : ℤ) : Type 0 where
  number : ℕ
  some : 1 ≤ number
  most : number ≤ 3
  is : l ≡ pos number

-- leaf levels have a span in every granule and width
by_three : (P : ℕ → Type 0) → P 1 → P 2 → P 3 → (n : ℕ) → 1 ≤ n → n ≤ 3 → P n
by_three P a b c zero l u = absurd (omega arith)
by_three P a b c (suc zero) l u = a
by_three P a b c (suc (suc zero)) l u = b
by_three P a b c (suc (suc (suc zero))) l u = c
by_three P a b c (suc (suc (suc (suc n)))) l u = absurd (omega arith)

abbrev Leaf : Bool → ℕ → ℕ → Type 0
Leaf wide tg n = (has_span wide tg (pos n) ≡ true) × (is_placed true (pos n) false ≡ true)

leaf-span : (wide : Bool) (tg n : ℕ) → 1 ≤ tg → tg ≤ 3 → 1 ≤ n → n ≤ 3 → Leaf wide tg n
unfolding has_span is_level exponent_of exponent_at height_of
leaf-span true tg n a b c d =
    by_three (λ (g : ℕ). Leaf true g n)
    (by_three (Leaf true 1) (refl, refl) (refl, refl) (refl, refl) n c d)
    (by_three (Leaf true 2) (refl, refl) (refl, refl) (refl, refl) n c d)
    (by_three (Leaf true 3) (refl, refl) (refl, refl) (refl, refl) n c d)
    tg a b
leaf-span false tg n a b c d =
    by_three (λ (g : ℕ). Leaf false g n)
    (by_three (Leaf false 1) (refl, refl) (refl, refl) (refl, refl) n c d)
    (by_three (Leaf false 2) (refl, refl) (refl, refl) (refl, refl) n c d)
    (by_three (Leaf false 3) (refl, refl) (refl, refl) (refl, refl) n c d)
    tg a b

-- the processor that runs an operation is reached
pub own-board : (st : State) → bad_state st ≡ false → (st.board.own < st.board.count) × (st.board.count ≤ 8)
unfolding bad_state bad_board
own-board st h =
    let b = st.board in
    let h0 = or-1 (bad_fields st) (bad_board b) h in
    let h1 = or-0 (ltb b.count 1 || ltb 8 b.count || leb b.count b.own) (not (domains_agree b)) h0 in
    let own = or-1 (ltb b.count 1 || ltb 8 b.count) (leb b.count b.own) h1 in
    let most = or-1 (ltb b.count 1) (ltb 8 b.count) (or-0 (ltb b.count 1 || ltb 8 b.count) (leb b.count b.own) h1) in
    (leb-false b.count b.own own, ltb-false 8 b.count most)

own-reached : (st : State) (op : Operation) → bad_state st ≡ false → reaches st op st.board.own ≡ true
unfolding reaches
own-reached st op h = simp (lt-ltb st.board.own st.board.count (own-board st h).0, by op.share)
  where
    by : (s : Share) → reaches_by s st.board st.board.own ≡ true
    by Local = eq-eqb st.board.own st.board.own refl
    by Inner = eq-eqb (inner_of st.board st.board.own) (inner_of st.board st.board.own) refl
    by Outer = eq-eqb (outer_of st.board st.board.own) (outer_of st.board st.board.own) refl

-- the level that the hint names, or 3
abbrev pub victim_level : Work → ℤ
victim_level w = unwrap_or w.level (pos 3)

unfoldable pub victim : State → Work → Entry
victim st w = record {
  processor = st.board.own;
  company = w.company;
  asid = unwrap_or w.asid 0;
  global = false;
  wide = w.wide;
  granule = w.granule;
  level = victim_level w;
  leaf = true;
  xs = false;
  base = down (exponent_of w.wide w.granule (victim_level w)) w.first;
}

victim-level : (st : State) (word xt xt2 : ℕ) (w : Work) → resolved_of st word xt xt2 ≡ Ok w → Leveled (victim_level w)
unfolding work_of
victim-level st word xt xt2 w h =
    let it = resolves st word xt xt2 w h in
    subst (λ (v : Work). Leveled (victim_level v)) it.work
    (by it.operand.ttl (asked-ttl st it.operation it.scope xt xt2 it.operand it.range it.asked) (eqb it.operand.ttl 0) refl)
  where
    by : (n : ℕ) → n < 4 → (b : Bool) → eqb n 0 ≡ b → Leveled (unwrap_or (cond b None (Some (pos n))) (pos 3))
    by n l true e = record { number = 3; some = omega arith; most = omega arith; is = refl }
    by n l false e = record { number = n; some = omega (arith, eqb-false n 0 e); most = omega arith; is = refl }

-- an address with its lowest bits zero is in the same half
reach-down : (st : State) (word xt xt2 : ℕ) (w : Work) (k : ℕ) → resolved_of st word xt xt2 ≡ Ok w → k ≤ 54 → in_reach w.company (down k w.first) ≡ true
reach-down st word xt xt2 w k h l =
    let f = fit st word xt xt2 w h in
    let a = w.first in
    let low : a < 2 ^ 64 = omega (arith, f.ordered, f.last) in
    let reach = work-reach st word xt xt2 w h in
    reach-between w.company k (a / 2 ^ k) a a l (omega arith) (omega (arith, split a k)) low low reach reach
    (or_right (not (has_asids w.company)) (eqb (bits 63 55 a) (bits 63 55 a)) (eq-eqb (bits 63 55 a) (bits 63 55 a) refl))

module _ (st : State) (word xt xt2 : ℕ) (w : Work) (good : bad_state st ≡ false) (h : resolved_of st word xt xt2 ≡ Ok w) where
  level : Leveled (victim_level w)
  level = victim-level st word xt xt2 w h

  span : (has_span w.wide w.granule (victim_level w) ≡ true) × (is_placed true (victim_level w) false ≡ true)
  span =
      let f = fit st word xt xt2 w h in
      subst (λ (l : ℤ). (has_span w.wide w.granule l ≡ true) × (is_placed true l false ≡ true)) (sym level.is)
      (leaf-span w.wide w.granule level.number f.granule_some f.granule_most level.some level.most)

  pub victim-legal : is_legal (victim st w) ≡ true
  unfolding victim
  victim-legal =
      legal-holds (victim st w)
      (record {
        processor = omega (arith, own-board st good);
        company = (owner st word xt xt2 w h).company;
        asids = asids w.asid refl;
        placed = span.1;
        span = span.0;
        multiple = (span-some (exponent_of w.wide w.granule (victim_level w)) w.first).0;
        reach = reach-down st word xt xt2 w (exponent_of w.wide w.granule (victim_level w)) h (span-most w.wide w.granule (victim_level w) span.0);
      })
    where
      asids : (a : Option ℕ) → w.asid ≡ a → (has_asids w.company || (eqb (unwrap_or a 0) 0 && not false)) ≡ true
      asids (Some n) e = or_left (has_asids w.company) (eqb n 0 && not false) (one-asids st word xt xt2 w h (ap is_some e))
      asids None e = or_right (has_asids w.company) true refl

  pub victim-goes : goes w (victim st w) ≡ true
  unfolding victim
  victim-goes =
      let it = resolves st word xt xt2 w h in
      let f = fit st word xt xt2 w h in
      let k = exponent_of w.wide w.granule (victim_level w) in
      let own = own-board st good in
      going-holds w (victim st w)
      (record {
        reached = work-reached st word xt xt2 w it.operation st.board.own h it.known (omega (arith, own)) ∙ own-reached st it.operation good;
        owned = company-self w.company;
        granule = eq-eqb w.granule w.granule refl;
        met = meets-by (down k w.first) k w.first w.last w.first (span-some k w.first).1 (omega arith) f.ordered;
        hinted = hinted w.level (is_width_of w (victim st w)) (cond-self w.wide);
        width = or_left (is_width_of w (victim st w)) (is_none w.level && w.d128) (cond-self w.wide);
        leaf = or_right (not w.leaves) true refl;
        asid = asid w.asid;
        xs = or_right (not w.nxs) true refl;
      })
    where
      asid : (a : Option ℕ) → (is_same_asid a (record (victim st w) { asid = unwrap_or a 0 }) || (true && false)) ≡ true
      asid (Some n) = ap (λ (c : Bool). c || false) (eq-eqb n n refl)
      asid None = refl

      hinted : (a : Option ℤ) (c : Bool) → c ≡ true → (is_none a || (c && is_at_level a (record (victim st w) { level = unwrap_or a (pos 3) }))) ≡ true
      hinted (Some l) c e = simp (e, level-self l)
      hinted None c e = refl

  -- its numbers fit, since the state's VMID has 16 bits
  pub victim-sized : st.vmid < 2 ^ 16 → Sized (victim st w) × ((victim st w).base < 2 ^ 64)
  unfolding victim vmid_in
  victim-sized low =
      let f = fit st word xt xt2 w h in
      let k = exponent_of w.wide w.granule (victim_level w) in
      let own = (owner st word xt xt2 w h).vmid in
      let vmid : w.company.vmid < 2 ^ 16 = subst (λ (n : ℕ). n < 2 ^ 16) (sym own) (by w.company.regime) in
      ((vmid, asid w.asid f.asid), omega (arith, split w.first k, f.ordered, f.last))
    where
      guest : (b : Bool) → cond b st.vmid 0 < 2 ^ 16
      guest true = low
      guest false = omega arith

      by : (g : Regime) → vmid_in st g < 2 ^ 16
      by EL10 = guest (el2_enabled st)
      by EL20 = omega arith
      by EL2 = omega arith
      by EL3 = omega arith

      asid : (a : Option ℕ) → IfSome a (λ n. n < 2 ^ 16) → unwrap_or a 0 < 2 ^ 16
      asid (Some n) l = l
      asid None l = omega arith

-- Slots that are passed: the loop that passes them, and a search or a pass over slots that goes on behind them.
use Prim.Native.Nat.{ℕ, zero, suc, ◌+◌, ◌*◌, ◌-◌, ◌/◌, ◌%◌, ◌<◌, ◌≤◌}
use mathlib.Core.Bool.{Bool, false}
use mathlib.Core.List.{List}
use mathlib.Core.Path.{◌≡◌, ap, subst, ◌∙◌}
use native.Mathlib.Decide.{ℕ_discrete}
use native.Mathlib.Omega.{arith}
use lib.Bits.{bit_and}
use lib.ListN.{length, get_or}
use Rattle.laws.proofs.Clearing.{Clearing, clear-keep}
use Rattle.laws.proofs.Slots.{Seeking, seek-next}
use Rattle.laws.specs.Passed.{Passed}

module _ (mask key : ℕ) (l : List ℕ) (i : ℕ) where
  -- at the start, and one to eight more
  pub pass-start : i % 3 ≡ 0 → i < length l → Passed mask key l i i
  pass-start w h = record {
    from = omega arith;
    inside = h;
    whole = w;
    others = λ (j : ℕ) (a : i < j) (b : j ≤ i) m e. absurd (let z : ⊥ = omega arith in z);
  }

  pub pass-more : (r : ℕ) → Passed mask key l i r → r + 3 < length l → (bit_and (get_or l (r + 4) 0) mask ≡ key → ⊥) → Passed mask key l i (r + 3)
  pass-more r s h n = record {
    from = omega (arith, s.from);
    inside = h;
    whole = omega (arith, s.whole);
    others = λ (j : ℕ) (a : i < j) (b : j ≤ r + 3) m e. go j a b m e (ℕ_discrete j (r + 3));
  }
    where
      go : (j : ℕ) → i < j → j ≤ r + 3 → j % 3 ≡ 0 → bit_and (get_or l (j + 1) 0) mask ≡ key → Dec (j ≡ r + 3) → ⊥
      go j a b m e (yes p) = let q : r + 4 ≡ j + 1 = omega arith in n (ap (λ (x : ℕ). bit_and (get_or l x 0) mask) q ∙ e)
      go j a b m e (no d) = s.others j a (omega (arith, s.whole)) m e

  pub pass-two : (r : ℕ) → Passed mask key l i r → r + 6 < length l → (bit_and (get_or l (r + 4) 0) mask ≡ key → ⊥) →
      (bit_and (get_or l (r + 7) 0) mask ≡ key → ⊥) → Passed mask key l i (r + 6)
  pass-two r s h n m =
      let seven : r + 7 ≡ r + 3 + 4 = omega arith in
      let six : r + 3 + 3 ≡ r + 6 = omega arith in
      let low : r + 3 + 3 < length l = omega arith in
      let one : Passed mask key l i (r + 3) = pass-more r s (omega arith) n in
      let two : Passed mask key l i (r + 3 + 3) =
      pass-more (r + 3) one low (λ (e : bit_and (get_or l (r + 3 + 4) 0) mask ≡ key). m (ap (λ (x : ℕ). bit_and (get_or l x 0) mask) seven ∙ e)) in
      subst (λ (x : ℕ). Passed mask key l i x) six two

  -- what is not at one word is not at another that is the same
  moved : (x y : ℕ) → x ≡ y → (bit_and (get_or l x 0) mask ≡ key → ⊥) → bit_and (get_or l y 0) mask ≡ key → ⊥
  moved x y e n h = n (ap (λ (z : ℕ). bit_and (get_or l z 0) mask) e ∙ h)

  pub pass-three : (r : ℕ) → Passed mask key l i r → r + 9 < length l → (bit_and (get_or l (r + 4) 0) mask ≡ key → ⊥) →
      (bit_and (get_or l (r + 7) 0) mask ≡ key → ⊥) → (bit_and (get_or l (r + 10) 0) mask ≡ key → ⊥) → Passed mask key l i (r + 9)
  pass-three r s h n m o =
      let nine : r + 6 + 3 ≡ r + 9 = omega arith in
      let low : r + 6 + 3 < length l = omega arith in
      let two : Passed mask key l i (r + 6) = pass-two r s (omega arith) n m in
      subst (λ (x : ℕ). Passed mask key l i x) nine (pass-more (r + 6) two low (moved (r + 10) (r + 6 + 4) (omega arith) o))

  pub pass-four : (r : ℕ) → Passed mask key l i r → r + 12 < length l → (bit_and (get_or l (r + 4) 0) mask ≡ key → ⊥) →
      (bit_and (get_or l (r + 7) 0) mask ≡ key → ⊥) → (bit_and (get_or l (r + 10) 0) mask ≡ key → ⊥) → (bit_and (get_or l (r + 13) 0) mask ≡ key → ⊥) →
      Passed mask key l i (r + 12)
  pass-four r s h n m o q =
      let twelve : r + 6 + 6 ≡ r + 12 = omega arith in
      let low : r + 6 + 6 < length l = omega arith in
      let two : Passed mask key l i (r + 6) = pass-two r s (omega arith) n m in
      subst (λ (x : ℕ). Passed mask key l i x) twelve
      (pass-two (r + 6) two low (moved (r + 10) (r + 6 + 4) (omega arith) o) (moved (r + 13) (r + 6 + 7) (omega arith) q))

  pub pass-five : (r : ℕ) → Passed mask key l i r → r + 15 < length l → (bit_and (get_or l (r + 4) 0) mask ≡ key → ⊥) →
      (bit_and (get_or l (r + 7) 0) mask ≡ key → ⊥) → (bit_and (get_or l (r + 10) 0) mask ≡ key → ⊥) → (bit_and (get_or l (r + 13) 0) mask ≡ key → ⊥) →
      (bit_and (get_or l (r + 16) 0) mask ≡ key → ⊥) → Passed mask key l i (r + 15)
  pass-five r s h n m o q t =
      let end : r + 12 + 3 ≡ r + 15 = omega arith in
      let low : r + 12 + 3 < length l = omega arith in
      let four : Passed mask key l i (r + 12) = pass-four r s (omega arith) n m o q in
      subst (λ (x : ℕ). Passed mask key l i x) end
      (pass-more (r + 12) four low (moved (r + 16) (r + 12 + 4) (omega arith) t))

  pub pass-six : (r : ℕ) → Passed mask key l i r → r + 18 < length l → (bit_and (get_or l (r + 4) 0) mask ≡ key → ⊥) →
      (bit_and (get_or l (r + 7) 0) mask ≡ key → ⊥) → (bit_and (get_or l (r + 10) 0) mask ≡ key → ⊥) → (bit_and (get_or l (r + 13) 0) mask ≡ key → ⊥) →
      (bit_and (get_or l (r + 16) 0) mask ≡ key → ⊥) → (bit_and (get_or l (r + 19) 0) mask ≡ key → ⊥) → Passed mask key l i (r + 18)
  pass-six r s h n m o q t u =
      let end : r + 12 + 6 ≡ r + 18 = omega arith in
      let low : r + 12 + 6 < length l = omega arith in
      let four : Passed mask key l i (r + 12) = pass-four r s (omega arith) n m o q in
      subst (λ (x : ℕ). Passed mask key l i x) end
      (pass-two (r + 12) four low (moved (r + 16) (r + 12 + 4) (omega arith) t) (moved (r + 19) (r + 12 + 7) (omega arith) u))

  pub pass-seven : (r : ℕ) → Passed mask key l i r → r + 21 < length l → (bit_and (get_or l (r + 4) 0) mask ≡ key → ⊥) →
      (bit_and (get_or l (r + 7) 0) mask ≡ key → ⊥) → (bit_and (get_or l (r + 10) 0) mask ≡ key → ⊥) → (bit_and (get_or l (r + 13) 0) mask ≡ key → ⊥) →
      (bit_and (get_or l (r + 16) 0) mask ≡ key → ⊥) → (bit_and (get_or l (r + 19) 0) mask ≡ key → ⊥) → (bit_and (get_or l (r + 22) 0) mask ≡ key → ⊥) →
      Passed mask key l i (r + 21)
  pass-seven r s h n m o q t u v =
      let end : r + 12 + 9 ≡ r + 21 = omega arith in
      let low : r + 12 + 9 < length l = omega arith in
      let four : Passed mask key l i (r + 12) = pass-four r s (omega arith) n m o q in
      subst (λ (x : ℕ). Passed mask key l i x) end
      (pass-three (r + 12) four low (moved (r + 16) (r + 12 + 4) (omega arith) t) (moved (r + 19) (r + 12 + 7) (omega arith) u) (moved (r + 22) (r + 12 + 10) (omega arith) v))

  pub pass-eight : (r : ℕ) → Passed mask key l i r → r + 24 < length l → (bit_and (get_or l (r + 4) 0) mask ≡ key → ⊥) →
      (bit_and (get_or l (r + 7) 0) mask ≡ key → ⊥) → (bit_and (get_or l (r + 10) 0) mask ≡ key → ⊥) → (bit_and (get_or l (r + 13) 0) mask ≡ key → ⊥) →
      (bit_and (get_or l (r + 16) 0) mask ≡ key → ⊥) → (bit_and (get_or l (r + 19) 0) mask ≡ key → ⊥) → (bit_and (get_or l (r + 22) 0) mask ≡ key → ⊥) →
      (bit_and (get_or l (r + 25) 0) mask ≡ key → ⊥) → Passed mask key l i (r + 24)
  pass-eight r s h n m o q t u v w =
      let end : r + 12 + 12 ≡ r + 24 = omega arith in
      let low : r + 12 + 12 < length l = omega arith in
      let four : Passed mask key l i (r + 12) = pass-four r s (omega arith) n m o q in
      subst (λ (x : ℕ). Passed mask key l i x) end
      (pass-four (r + 12) four low (moved (r + 16) (r + 12 + 4) (omega arith) t) (moved (r + 19) (r + 12 + 7) (omega arith) u) (moved (r + 22) (r + 12 + 10) (omega arith) v) (moved (r + 25) (r + 12 + 13) (omega arith) w))

  -- none of them, the first included, is what is looked for
  none : (r : ℕ) → Passed mask key l i r → i % 3 ≡ 0 → (bit_and (get_or l (i + 1) 0) mask ≡ key → ⊥) → (k : ℕ) → k < (r - i) / 3 + 1 →
      bit_and (get_or l (i + 3 * k + 1) 0) mask ≡ key → ⊥
  none r s w first k m e = go (ℕ_discrete k 0)
    where
      go : Dec (k ≡ 0) → ⊥
      go (yes z) = let q : i + 1 ≡ i + 3 * k + 1 = omega arith in first (ap (λ (x : ℕ). bit_and (get_or l x 0) mask) q ∙ e)
      go (no d) = s.others (i + 3 * k) (omega arith) (omega (arith, s.from)) (omega arith) e

-- slots that do not pass a test, one after the other
clear-past : (p : ℕ → ℕ → ℕ → Bool) (old l : List ℕ) (i n d : ℕ) → i + 3 * d ≤ length l → Clearing p old l i n →
    ((k : ℕ) → k < d → p (get_or l (i + 3 * k) 0) (get_or l (i + 3 * k + 1) 0) (get_or l (i + 3 * k + 2) 0) ≡ false) → Clearing p old l (i + 3 * d) n
clear-past p old l i n zero h s f = let e : i ≡ i + 3 * 0 = omega arith in subst (λ (x : ℕ). Clearing p old l x n) e s
clear-past p old l i n (suc d) h s f =
    let e : i + 3 * d + 3 ≡ i + 3 * suc d = omega arith in
    let low : i + 3 * d < length l = omega arith in
    let up : Clearing p old l (i + 3 * d) n = clear-past p old l i n d (omega arith) s (λ (k : ℕ) (m : k < d). f k (omega arith)) in
    subst (λ (x : ℕ). Clearing p old l x n) e (clear-keep p old l (i + 3 * d) n low up (f d (omega arith)))

seek-past : (p : ℕ → ℕ → ℕ → Bool) (l : List ℕ) (i d : ℕ) → i + 3 * d ≤ length l → Seeking p l i (i / 3) →
    ((k : ℕ) → k < d → p (get_or l (i + 3 * k) 0) (get_or l (i + 3 * k + 1) 0) (get_or l (i + 3 * k + 2) 0) ≡ false) → Seeking p l (i + 3 * d) ((i + 3 * d) / 3)
seek-past p l i zero h s f = let e : i ≡ i + 3 * 0 = omega arith in subst (λ (x : ℕ). Seeking p l x (x / 3)) e s
seek-past p l i (suc d) h s f =
    let e : i + 3 * d + 3 ≡ i + 3 * suc d = omega arith in
    let low : i + 3 * d < length l = omega arith in
    let up : Seeking p l (i + 3 * d) ((i + 3 * d) / 3) = seek-past p l i d (omega arith) s (λ (k : ℕ) (m : k < d). f k (omega arith)) in
    subst (λ (x : ℕ). Seeking p l x (x / 3)) e (seek-next p l (i + 3 * d) low up (f d (omega arith)))

-- a pass or a search that has come to the slot at word i goes on behind those that are passed, where none of them passes its test
module _ (p : ℕ → ℕ → ℕ → Bool) (mask key : ℕ) (other : (b t o : ℕ) → (bit_and t mask ≡ key → ⊥) → p b t o ≡ false) where
  pub clear-passed : (old l : List ℕ) (i r n : ℕ) → (bit_and (get_or l (i + 1) 0) mask ≡ key → ⊥) → Passed mask key l i r → Clearing p old l i n →
      Clearing p old l (r + 3) n
  clear-passed old l i r n first s c =
      let end : i + 3 * ((r - i) / 3 + 1) ≡ r + 3 = omega (arith, s.from, s.whole, c.3) in
      let low : i + 3 * ((r - i) / 3 + 1) ≤ length l = omega (arith, end, s.inside, s.whole, c.1) in
      subst (λ (x : ℕ). Clearing p old l x n) end
      (clear-past p old l i n ((r - i) / 3 + 1) low c
      (λ (k : ℕ) (m : k < (r - i) / 3 + 1). other (get_or l (i + 3 * k) 0) (get_or l (i + 3 * k + 1) 0) (get_or l (i + 3 * k + 2) 0) (none mask key l i r s c.3 first k m)))

  pub seek-passed : (l : List ℕ) (i r : ℕ) → (bit_and (get_or l (i + 1) 0) mask ≡ key → ⊥) → Passed mask key l i r → Seeking p l i (i / 3) →
      Seeking p l (r + 3) ((r + 3) / 3)
  seek-passed l i r first s c =
      let whole : i % 3 ≡ 0 = omega (arith, c.2) in
      let end : i + 3 * ((r - i) / 3 + 1) ≡ r + 3 = omega (arith, s.from, s.whole, whole) in
      let low : i + 3 * ((r - i) / 3 + 1) ≤ length l = omega (arith, end, s.inside, s.whole, c.0) in
      subst (λ (x : ℕ). Seeking p l x (x / 3)) end
      (seek-past p l i ((r - i) / 3 + 1) low c
      (λ (k : ℕ) (m : k < (r - i) / 3 + 1). other (get_or l (i + 3 * k) 0) (get_or l (i + 3 * k + 1) 0) (get_or l (i + 3 * k + 2) 0) (none mask key l i r s whole first k m)))

-- A search that looks at eight elements in a turn finds what a plain search finds.
use Rattle.std.proofs.Common.{◌≡◌, ℕ, zero, suc, ◌+◌, ◌*◌, ◌<◌, ◌≤◌, Bool, true, false, cond, not, List, [], length, take, drop, get_or, refl, sym, ap, ◌∙◌, arith, ltb-true, ltb-false}
use borrow.Author.Tests.{ne_eqb, eq-eqb}
use Rattle.std.proofs.lemmas.List.{take-append-drop, drop-drop, length-take-le}
use Rattle.std.proofs.lemmas.List.Folds.{prefix_len-append}
use Rattle.std.proofs.lemmas.List.Sums.{prefix_len-le-length}
use Rattle.std.proofs.lemmas.Option.{cond_some}
use Rattle.std.specs.List.{position, position_or_len}
use Rattle.std.specs.Option.{unwrap_or}
use Rattle.std.specs.Prelude.{nat_lt, Some, None}
use Rattle.std.specs.Simd.{first_chunks}

-- eight of the elements, by their place
pub eight-at : {X : Type 0} (k n : ℕ) (xs : List X) → n < k → get_or (first_chunks 8 k xs) n [] ≡ take 8 (drop (8 * n) xs)
eight-at zero n xs h = absurd (omega arith)
eight-at (suc k) zero xs h = refl
eight-at (suc k) (suc n) xs h =
    let e : 8 + 8 * n ≡ 8 * suc n = omega arith in
    eight-at k n (drop 8 xs) (omega arith) ∙ ap (take 8) (drop-drop (8 * n) 8 xs ∙ ap (λ (j : ℕ). drop j xs) e)

none_false : (b : Bool) (x : ℕ) → cond b (Some x) None ≡ None → b ≡ false
none_false true x e = cc
none_false false x e = refl

module _ {X : Type 0} (p : X → Bool) where
  -- where the first m elements have one, it is the first of all
  pub found-there : (m k : ℕ) (xs : List X) → position p (take m xs) ≡ Some k → position_or_len p xs ≡ k
  found-there m k xs e =
      let front = take m xs in
      let n : ℕ = position_or_len p front in
      let (low, at) = cond_some (nat_lt n (length front)) n k e in
      let less : n < length front = ltb-true n (length front) low in
      ap (position_or_len p) (sym (take-append-drop m xs))
      ∙ prefix_len-append (λ (x : X). not (p x)) front (drop m xs)
      ∙ ap (λ (b : Bool). cond b (length front + position_or_len p (drop m xs)) n) (ne_eqb n (length front) (λ (z : n ≡ length front). omega (arith, less, z)))
      ∙ at

  -- and where they have none, it is the first of those behind them
  pub found-behind : (m : ℕ) (xs : List X) → m ≤ length xs → position p (take m xs) ≡ None → position_or_len p xs ≡ m + position_or_len p (drop m xs)
  found-behind m xs h e =
      let front = take m xs in
      let n : ℕ = position_or_len p front in
      let all : n ≡ length front =
      omega (arith, ltb-false n (length front) (none_false (nat_lt n (length front)) n e), prefix_len-le-length (λ (x : X). not (p x)) front) in
      ap (position_or_len p) (sym (take-append-drop m xs))
      ∙ prefix_len-append (λ (x : X). not (p x)) front (drop m xs)
      ∙ ap (λ (b : Bool). cond b (length front + position_or_len p (drop m xs)) n) (eq-eqb n (length front) all)
      ∙ ap (λ (k : ℕ). k + position_or_len p (drop m xs)) (length-take-le m xs h)

  -- the first, or how many there are
  pub or-all : (xs : List X) → unwrap_or (position p xs) (length xs) ≡ position_or_len p xs
  or-all xs = go (nat_lt (position_or_len p xs) (length xs)) refl
    where
      go : (b : Bool) → nat_lt (position_or_len p xs) (length xs) ≡ b → unwrap_or (cond b (Some (position_or_len p xs)) None) (length xs) ≡ position_or_len p xs
      go true e = refl
      go false e =
          let most : position_or_len p xs ≤ length xs = prefix_len-le-length (λ (x : X). not (p x)) xs in
          let least : length xs ≤ position_or_len p xs = ltb-false (position_or_len p xs) (length xs) e in
          let same : length xs ≡ position_or_len p xs = omega arith in
          same

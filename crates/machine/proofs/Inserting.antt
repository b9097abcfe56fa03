-- Insert: its answer and the table case by case, and what it does to the slots.
use Rattle.std.specs.Prelude.{Result, Ok, Err}
use Prim.Native.Nat.{ℕ, ◌+◌, ◌*◌, ◌/◌, ◌%◌, ◌<◌, ◌≤◌}
use mathlib.Core.Bool.{Bool, true, false, cond, not}
use mathlib.Core.List.{List}
use mathlib.Core.Logic.{◌↔◌}
use mathlib.Core.Path.{◌≡◌, refl, sym, ap, ap₂, subst, ◌∙◌}
use native.Mathlib.Omega.{arith}
use lib.Dec.{eqb, leb}
use lib.ListN.{length, get_or}
use borrow.Author.Tests.{eqb-true, leb-true, ltb-true, lt-ltb, le-ltb}
use Rattle.laws.proofs.Slots.{first-none, first_holds, first-is, some-none, none-some, put-length, put-here, put_other, put_keeps}
use Rattle.laws.proofs.Truth.{and_0, and-1}
use Rattle.laws.specs.Slots.{slots, holds_at, first, some, put}
use Rattle.machine.specs.Answer.{number_of, value_of}
use Rattle.machine.specs.Entry.{is_legal}
use Rattle.machine.specs.Table.{has_shape, is_table, is_empty, filled, inserted_of, insert_table}
use Rattle.machine.specs.Tag.{tag_of, entry_at, is_entry, Sized}
use Rattle.machine.proofs.Tags.{written-reads}
use Rattle.machine.specs.declared.entry.Entry.{Entry}
use Rattle.machine.specs.declared.refusal.Refusal.{Refusal}
use Rattle.machine.specs.declared.refusal.Refusal.TheVariants as refusal

-- words in shape are three to a slot or a step, and at most so many
pub has-shape : (most words : ℕ) → has_shape most words ≡ true → (words % 3 ≡ 0) × (words ≤ most)
has-shape most words h =
    let three = eqb (words % 3) 0 in
    let few = leb words most in
    (eqb-true (words % 3) 0 (and_0 three few h), leb-true words most (and-1 three few h))

pub table-shape : (l : List ℕ) → is_table l ≡ true → (length l % 3 ≡ 0) × (length l ≤ 6144)
table-shape l h = has-shape 6144 (length l) h

-- "Insert: 13, 8, 9."
pub insert-13 : (e : Entry) (out : ℕ) (l : List ℕ) → is_table l ≡ false → (inserted_of e l ≡ Err refusal.BadShape) × (insert_table e out l ≡ l)
unfolding inserted_of insert_table
insert-13 e out l h = let a : inserted_of e l ≡ Err refusal.BadShape = simp h in (a, ap (λ r. filled r e out l) a)

pub insert-8 : (e : Entry) (out : ℕ) (l : List ℕ) → is_table l ≡ true → is_legal e ≡ false → (inserted_of e l ≡ Err refusal.Illegal) × (insert_table e out l ≡ l)
unfolding inserted_of insert_table
insert-8 e out l h i = let a : inserted_of e l ≡ Err refusal.Illegal = simp (h, i) in (a, ap (λ r. filled r e out l) a)

pub insert-9 : (e : Entry) (out : ℕ) (l : List ℕ) → is_table l ≡ true → is_legal e ≡ true → slots l ≤ first is_empty l →
    (inserted_of e l ≡ Err refusal.Full) × (insert_table e out l ≡ l)
unfolding inserted_of insert_table
insert-9 e out l h i f =
    let a : inserted_of e l ≡ Err refusal.Full = simp (h, i, le-ltb (first is_empty l) (slots l) f) in
    (a, ap (λ r. filled r e out l) a)

pub insert-0 : (e : Entry) (out : ℕ) (l : List ℕ) (k : ℕ) → is_table l ≡ true → is_legal e ≡ true → k ≡ first is_empty l → k < slots l →
    (inserted_of e l ≡ Ok k) × (insert_table e out l ≡ put k e.base (tag_of e) out l)
unfolding inserted_of insert_table
insert-0 e out l k h i f n =
    let s : first is_empty l < slots l = omega arith in
    let b : inserted_of e l ≡ Ok (first is_empty l) = simp (h, i, lt-ltb (first is_empty l) (slots l) s) in
    let a : inserted_of e l ≡ Ok k = b ∙ ap Ok (sym f) in
    (a, ap (λ r. filled r e out l) a)

-- "Each is given exactly when its row holds and no earlier check applies."
pub insert-answer : (e : Entry) (l : List ℕ) →
    number_of (inserted_of e l) ≡ cond (not (is_table l)) 13 (cond (not (is_legal e)) 8 (cond (not (some is_empty l)) 9 0))
unfolding inserted_of
insert-answer e l = go (is_table l) (is_legal e) (some is_empty l)
  where
    go : (a b c : Bool) →
        number_of (cond a (cond b (cond c (Ok (first is_empty l)) (Err refusal.Full)) (Err refusal.Illegal)) (Err refusal.BadShape)) ≡ cond (not a) 13 (cond (not b) 8 (cond (not c) 9 0))
    go true true true = refl
    go true true false = refl
    go true false c = refl
    go false b c = refl

-- "Every answer but 0 leaves all lent memory unchanged."
pub insert-refused : (e : Entry) (out : ℕ) (l : List ℕ) → (number_of (inserted_of e l) ≡ 0 → ⊥) → insert_table e out l ≡ l
unfolding insert_table
insert-refused e out l = go (inserted_of e l)
  where
    go : (r : Result ℕ Refusal) → (number_of r ≡ 0 → ⊥) → filled r e out l ≡ l
    go (Ok k) h = absurd (h (let z : ◌≡◌ {A = ℕ} 0 0 = refl in z))
    go (Err r) h = refl

-- what holds where insert answers 0 with slot k
pub record Taken (e : Entry) (out : ℕ) (l : List ℕ) (k : ℕ) : Type 0 where
  -- the slot is in the table, it read as empty, all zeros or senseless, and no lower one did
  pub within : k < slots l
  pub empty : holds_at is_empty l k ≡ true
  pub lowest : (j : ℕ) → j < k → holds_at is_empty l j ≡ false
  -- it holds the entry and the output word
  pub base : get_or (insert_table e out l) (3 * k) 0 ≡ e.base
  pub tag : get_or (insert_table e out l) (3 * k + 1) 0 ≡ tag_of e
  pub output : get_or (insert_table e out l) (3 * k + 2) 0 ≡ out
  -- every other word stays, and the length
  pub others : (j : ℕ) → (j / 3 ≡ k → ⊥) → get_or (insert_table e out l) j 0 ≡ get_or l j 0
  pub as_long : length (insert_table e out l) ≡ length l

-- where insert answers 0, no check applied
pub insert-done : (e : Entry) (l : List ℕ) (k : ℕ) → inserted_of e l ≡ Ok k →
    (is_table l ≡ true) × (is_legal e ≡ true) × (first is_empty l < slots l) × (first is_empty l ≡ k)
unfolding inserted_of
insert-done e l k = go (is_table l) refl (is_legal e) refl (some is_empty l) refl
  where
    go : (a : Bool) → is_table l ≡ a → (b : Bool) → is_legal e ≡ b → (c : Bool) → some is_empty l ≡ c →
        cond a (cond b (cond c (Ok (first is_empty l)) (Err refusal.Full)) (Err refusal.Illegal)) (Err refusal.BadShape) ≡ Ok k →
        (is_table l ≡ true) × (is_legal e ≡ true) × (first is_empty l < slots l) × (first is_empty l ≡ k)
    go true ea true eb true ec h = (ea, eb, ltb-true (first is_empty l) (slots l) ec, ap value_of h)
    go true ea true eb false ec h = absurd (let z : ◌≡◌ {A = ℕ} 9 0 = ap number_of h in omega arith)
    go true ea false eb c ec h = absurd (let z : ◌≡◌ {A = ℕ} 8 0 = ap number_of h in omega arith)
    go false ea b eb c ec h = absurd (let z : ◌≡◌ {A = ℕ} 13 0 = ap number_of h in omega arith)

pub taken : (e : Entry) (out : ℕ) (l : List ℕ) (k : ℕ) → inserted_of e l ≡ Ok k → Taken e out l k
taken e out l k h =
    let (shape, ok, room, at) = insert-done e l k h in
    let low : k < slots l = omega arith in
    let three : length l % 3 ≡ 0 = (table-shape l shape).0 in
    let fits : 3 * k + 2 < length l = omega arith in
    let new : insert_table e out l ≡ put k e.base (tag_of e) out l = (insert-0 e out l k shape ok (sym at) low).1 in
    let word : (j : ℕ) → get_or (insert_table e out l) j 0 ≡ get_or (put k e.base (tag_of e) out l) j 0 = λ (j : ℕ). ap (λ (m : List ℕ). get_or m j 0) new in
    let (b, t, o) = put-here k e.base (tag_of e) out l fits in
    record {
      within = low;
      empty = subst (λ (j : ℕ). holds_at is_empty l j ≡ true) at (first_holds is_empty l room);
      lowest = λ (j : ℕ) (n : j < k). first-none is_empty l j (omega arith);
      base = word (3 * k) ∙ b;
      tag = word (3 * k + 1) ∙ t;
      output = word (3 * k + 2) ∙ o;
      others = λ (j : ℕ) (d : j / 3 ≡ k → ⊥). word j ∙ put_other k e.base (tag_of e) out l j d;
      as_long = ap length new ∙ put-length k e.base (tag_of e) out l;
    }

-- so every other slot reads as before, senseless ones too
pub others-read : (e : Entry) (out : ℕ) (l : List ℕ) (k : ℕ) → inserted_of e l ≡ Ok k → (p : ℕ → ℕ → ℕ → Bool) (j : ℕ) → (j ≡ k → ⊥) →
    holds_at p (insert_table e out l) j ≡ holds_at p l j
others-read e out l k h p j d =
    let (shape, ok, room, at) = insert-done e l k h in
    let new : insert_table e out l ≡ put k e.base (tag_of e) out l = (insert-0 e out l k shape ok (sym at) (omega arith)).1 in
    ap (λ (m : List ℕ). holds_at p m j) new ∙ put_keeps p k e.base (tag_of e) out l j d

-- the slot that was taken reads as the entry: "a slot that insert wrote reads back as every field and the output word it was given"
pub taken-reads : (e : Entry) (out : ℕ) (l : List ℕ) (k : ℕ) → Sized e → inserted_of e l ≡ Ok k →
    (is_entry (get_or (insert_table e out l) (3 * k) 0) (get_or (insert_table e out l) (3 * k + 1) 0) ≡ true)
    × (entry_at (get_or (insert_table e out l) (3 * k) 0) (get_or (insert_table e out l) (3 * k + 1) 0) ≡ e)
    × (get_or (insert_table e out l) (3 * k + 2) 0 ≡ out)
taken-reads e out l k z h =
    let it = taken e out l k h in
    let (reads, back) = written-reads e z (insert-done e l k h).1 in
    (ap₂ is_entry it.base it.tag ∙ reads, ap₂ entry_at it.base it.tag ∙ back, it.output)

-- a slot that reads as empty, all zeros or senseless, is taken where no lower one does
pub insert-takes : (e : Entry) (l : List ℕ) (k : ℕ) → is_table l ≡ true → is_legal e ≡ true → k < slots l → holds_at is_empty l k ≡ true →
    ((j : ℕ) → j < k → holds_at is_empty l j ≡ false) → inserted_of e l ≡ Ok k
insert-takes e l k shape ok low here lower = (insert-0 e 0 l k shape ok (sym (first-is is_empty l k low lower here)) low).0

-- "9: no slot reads as empty", and exactly then
pub insert-full : (e : Entry) (l : List ℕ) → is_table l ≡ true → is_legal e ≡ true →
    (inserted_of e l ≡ Err refusal.Full) ↔ ((k : ℕ) → k < slots l → holds_at is_empty l k ≡ false)
unfolding inserted_of
insert-full e l shape ok = (there, λ (none : (k : ℕ) → k < slots l → holds_at is_empty l k ≡ false). simp (shape, ok, none-some is_empty l none))
  where
    there : inserted_of e l ≡ Err refusal.Full → (k : ℕ) → k < slots l → holds_at is_empty l k ≡ false
    there h = go (some is_empty l) refl
      where
        go : (b : Bool) → some is_empty l ≡ b → (k : ℕ) → k < slots l → holds_at is_empty l k ≡ false
        go true s =
            let at : inserted_of e l ≡ Ok (first is_empty l) = simp (shape, ok, s) in
            absurd (let z : ◌≡◌ {A = ℕ} 9 0 = ap number_of (sym h ∙ at) in omega arith)
        go false s = some-none is_empty l s

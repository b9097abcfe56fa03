-- Look up: what turns a slot away, what is left to test, its answer case by case, and that what was inserted is found.
use Rattle.std.specs.Prelude.{Result, Ok, Err}
use Prim.Native.Nat.{ℕ, ◌+◌, ◌*◌, ◌%◌, ◌^◌, ◌<◌, ◌≤◌}
use mathlib.Core.Bool.{Bool, true, false, cond, not, ◌&&◌}
use mathlib.Core.List.{List}
use mathlib.Core.Logic.{◌↔◌}
use mathlib.Core.Path.{◌≡◌, refl, sym, ap, subst, ◌∙◌}
use native.Mathlib.Omega.{arith}
use lib.ListN.{get_or}
use borrow.Author.Tests.{ltb-true, lt-ltb, le-ltb, eq-eqb, ne_eqb}
use Rattle.laws.proofs.Slots.{slot_same, first-none, first_holds, first-is, some-none, none-some}
use Rattle.laws.specs.Slots.{slots, holds_at, first, some}
use Rattle.machine.proofs.Inserting.{taken, insert-done, others-read}
use Rattle.machine.proofs.Tags.{entry-layout, written-reads, company-one, company-self, company-key}
use Rattle.machine.specs.Answer.{number_of}
use Rattle.machine.specs.Entry.{is_legal}
use Rattle.machine.specs.State.{bad_state}
use Rattle.machine.specs.Table.{has_shape, is_table, inserted_of, insert_table, same_company, stage1_of, holds_address, translates, matches, found_at, looked_up_of}
use Rattle.machine.specs.Tag.{layout, tag_of, company_at, entry_at, is_entry, Sized}
use Rattle.machine.specs.declared.entry.Company.{Company}
use Rattle.machine.specs.declared.entry.Entry.{Entry}
use Rattle.machine.specs.declared.processor.State.{State}
use Rattle.machine.specs.declared.scope.Regime.{Regime}
use Rattle.machine.specs.declared.table.Match.{Match}
use Rattle.machine.specs.declared.refusal.Refusal.{Refusal}
use Rattle.machine.specs.declared.refusal.Refusal.TheVariants as refusal

-- a slot that reads as empty matches nothing
pub match-empty : (c : Company) (own asid address base tag out : ℕ) → is_entry base tag ≡ false → matches c own asid address base tag out ≡ false
unfolding matches
match-empty c own asid address base tag out h = ap (λ (b : Bool). b && translates c own asid address (entry_at base tag)) h

-- a slot whose lower part is not the company's matches nothing
pub match-other : (key own asid address base tag out : ℕ) → key % 2 ^ 4 ≡ layout → key < 2 ^ 26 → (tag % 2 ^ 26 ≡ key → ⊥) →
    matches (company_at key) own asid address base tag out ≡ false
unfolding matches translates entry_at
match-other key own asid address base tag out hk hl d = go (is_entry base tag) refl
  where
    go : (b : Bool) → is_entry base tag ≡ b → (b && translates (company_at key) own asid address (entry_at base tag)) ≡ false
    go true h =
        let s : same_company (company_at tag) (company_at key) ≡ false = company-key key tag hk hl (entry-layout base tag h) ∙ ne_eqb (tag % 2 ^ 26) key d in
        simp s
    go false h = refl

-- and one whose lower part is matches if the rest holds
pub match-own : (key own asid address base tag out : ℕ) → key % 2 ^ 4 ≡ layout → key < 2 ^ 26 → tag % 2 ^ 26 ≡ key → is_entry base tag ≡ true →
    matches (company_at key) own asid address base tag out ≡ holds_address own asid address (entry_at base tag)
unfolding matches translates entry_at
match-own key own asid address base tag out hk hl e h =
    let s : same_company (company_at tag) (company_at key) ≡ true = company-key key tag hk hl (entry-layout base tag h) ∙ eq-eqb (tag % 2 ^ 26) key e in
    let one : company_at key ≡ company_at tag = sym (company-one (company_at tag) (company_at key) s) in
    ap (λ (c : Company). is_entry base tag && translates c own asid address (entry_at base tag)) one ∙ simp (h, company-self (company_at tag))

-- "Look up: 13, 2, 14."
pub lookup-13 : (st : State) (r : Regime) (asid address : ℕ) (l : List ℕ) → is_table l ≡ false → looked_up_of st r asid address l ≡ Err refusal.BadShape
unfolding looked_up_of
lookup-13 st r asid address l h = simp h

pub lookup-2 : (st : State) (r : Regime) (asid address : ℕ) (l : List ℕ) → is_table l ≡ true → bad_state st ≡ true → looked_up_of st r asid address l ≡ Err refusal.BadState
unfolding looked_up_of
lookup-2 st r asid address l h b = simp (h, b)

-- the test of a lookup
abbrev pub sought : State → Regime → ℕ → ℕ → ℕ → ℕ → ℕ → Bool
sought st r asid address = matches (stage1_of st r) st.board.own asid address

pub lookup-14 : (st : State) (r : Regime) (asid address : ℕ) (l : List ℕ) → is_table l ≡ true → bad_state st ≡ false → slots l ≤ first (sought st r asid address) l →
    looked_up_of st r asid address l ≡ Err (refusal.NotFound (slots l))
unfolding looked_up_of
lookup-14 st r asid address l h b n = simp (h, b, le-ltb (first (sought st r asid address) l) (slots l) n)

pub lookup-0 : (st : State) (r : Regime) (asid address : ℕ) (l : List ℕ) (k : ℕ) → is_table l ≡ true → bad_state st ≡ false → k ≡ first (sought st r asid address) l →
    k < slots l → looked_up_of st r asid address l ≡ found_at k l
unfolding looked_up_of
lookup-0 st r asid address l k h b f n =
    let s : first (sought st r asid address) l < slots l = omega arith in
    let at : looked_up_of st r asid address l ≡ found_at (first (sought st r asid address) l) l = simp (h, b, lt-ltb (first (sought st r asid address) l) (slots l) s) in
    at ∙ ap (λ (j : ℕ). found_at j l) (sym f)

-- "Each is given exactly when its row holds and no earlier check applies."
pub lookup-answer : (st : State) (r : Regime) (asid address : ℕ) (l : List ℕ) →
    number_of (looked_up_of st r asid address l)
    ≡ cond (not (is_table l)) 13 (cond (bad_state st) 2 (cond (not (some (sought st r asid address) l)) 14 0))
unfolding looked_up_of
lookup-answer st r asid address l = go (is_table l) (bad_state st) (some (sought st r asid address) l)
  where
    k : ℕ
    k = first (sought st r asid address) l

    go : (a b c : Bool) →
        number_of (cond a (cond b (Err refusal.BadState) (cond c (found_at k l) (Err (refusal.NotFound (slots l))))) (Err refusal.BadShape)) ≡ cond (not a) 13 (cond b 2 (cond (not c) 14 0))
    go true true c = refl
    go true false true = refl
    go true false false = refl
    go false b c = refl

-- what holds where look up answers 0
pub record Seen (st : State) (r : Regime) (asid address : ℕ) (l : List ℕ) (m : Match) : Type 0 where
  -- the slot is in the table, holds an entry that translates the address, and no lower one does
  pub within : m.slot < slots l
  pub here : holds_at (sought st r asid address) l m.slot ≡ true
  pub lowest : (j : ℕ) → j < m.slot → holds_at (sought st r asid address) l j ≡ false
  -- "the slot, output word and slots examined: position plus one"
  pub output : m.out ≡ get_or l (3 * m.slot + 2) 0
  pub count : m.examined ≡ m.slot + 1

pub seen : (st : State) (r : Regime) (asid address : ℕ) (l : List ℕ) (m : Match) → looked_up_of st r asid address l ≡ Ok m → Seen st r asid address l m
unfolding looked_up_of
seen st r asid address l m = go (is_table l) (bad_state st) (some p l) refl
  where
    p : ℕ → ℕ → ℕ → Bool
    p = sought st r asid address

    match : Result Match Refusal → Match
    match (Ok n) = n
    match (Err r) = m

    found : first p l < slots l → record { slot = first p l; out = get_or l (3 * first p l + 2) 0; examined = first p l + 1 } ≡ m → Seen st r asid address l m
    found h e =
        subst (Seen st r asid address l) e
        (record {
          within = h;
          here = first_holds p l h;
          lowest = λ (j : ℕ) (n : j < first p l). first-none p l j n;
          output = refl;
          count = refl;
        })

    go : (a b c : Bool) → some p l ≡ c → cond a (cond b (Err refusal.BadState) (cond c (found_at (first p l) l) (Err (refusal.NotFound (slots l))))) (Err refusal.BadShape) ≡ Ok m →
        Seen st r asid address l m
    go true true c ec h = absurd (let z : ◌≡◌ {A = ℕ} 2 0 = ap number_of h in omega arith)
    go true false true ec h = found (ltb-true (first p l) (slots l) ec) (ap match h)
    go true false false ec h = absurd (let z : ◌≡◌ {A = ℕ} 14 0 = ap number_of h in omega arith)
    go false b c ec h = absurd (let z : ◌≡◌ {A = ℕ} 13 0 = ap number_of h in omega arith)

-- the slot of a legal entry matches exactly where the entry translates
pub written-matches : (c : Company) (own asid address : ℕ) (e : Entry) (out : ℕ) → Sized e → is_legal e ≡ true →
    matches c own asid address e.base (tag_of e) out ≡ translates c own asid address e
unfolding matches
written-matches c own asid address e out z h =
    let (reads, back) = written-reads e z h in
    ap (λ (b : Bool). b && translates c own asid address (entry_at e.base (tag_of e))) reads ∙ ap (translates c own asid address) back

-- what was inserted is found, where nothing earlier matches: its slot, its output word, and as many slots examined
pub inserted-found : (e : Entry) (out : ℕ) (l : List ℕ) (k : ℕ) (st : State) (r : Regime) (asid address : ℕ) → Sized e → inserted_of e l ≡ Ok k →
    bad_state st ≡ false → translates (stage1_of st r) st.board.own asid address e ≡ true →
    ((j : ℕ) → j < k → holds_at (sought st r asid address) l j ≡ false) →
    looked_up_of st r asid address (insert_table e out l) ≡ Ok (record { slot = k; out = out; examined = k + 1 })
inserted-found e out l k st r asid address z h good t none =
    let p = sought st r asid address in
    let new = insert_table e out l in
    let it = taken e out l k h in
    let shape : is_table new ≡ true = ap (has_shape 6144) it.as_long ∙ (insert-done e l k h).0 in
    let within : k < slots new = omega (arith, it.within, it.as_long) in
    let here : holds_at p new k ≡ true = slot_same p it.base it.tag it.output ∙ written-matches (stage1_of st r) st.board.own asid address e out z (insert-done e l k h).1 ∙ t in
    let before : (j : ℕ) → j < k → holds_at p new j ≡ false = λ (j : ℕ) (n : j < k). others-read e out l k h p j (λ (q : j ≡ k). omega arith) ∙ none j n in
    let place : first p new ≡ k = first-is p new k within before here in
    lookup-0 st r asid address new k shape good (sym place) within ∙ ap (λ (o : ℕ). (Ok (record { slot = k; out = o; examined = k + 1 }))) it.output

-- "14: address not found", exactly if no slot matches; "or all"
pub unseen : (st : State) (r : Regime) (asid address : ℕ) (l : List ℕ) → is_table l ≡ true → bad_state st ≡ false →
    (looked_up_of st r asid address l ≡ Err (refusal.NotFound (slots l))) ↔ ((k : ℕ) → k < slots l → holds_at (sought st r asid address) l k ≡ false)
unfolding looked_up_of
unseen st r asid address l shape good =
    (there, λ (none : (k : ℕ) → k < slots l → holds_at (sought st r asid address) l k ≡ false). simp (shape, good, none-some (sought st r asid address) l none))
  where
    p : ℕ → ℕ → ℕ → Bool
    p = sought st r asid address

    there : looked_up_of st r asid address l ≡ Err (refusal.NotFound (slots l)) → (k : ℕ) → k < slots l → holds_at p l k ≡ false
    there h = go (some p l) refl
      where
        go : (b : Bool) → some p l ≡ b → (k : ℕ) → k < slots l → holds_at p l k ≡ false
        go true s =
            let at : looked_up_of st r asid address l ≡ found_at (first p l) l = simp (shape, good, s) in
            absurd (let z : ◌≡◌ {A = ℕ} 14 0 = ap number_of (sym h ∙ at) in omega arith)
        go false s = some-none p l s

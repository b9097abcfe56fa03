-- What a state that is not bad says, and the rule on domains in words.
use Prim.Native.Nat.{ℕ, ◌<◌, ◌≤◌}
use mathlib.Core.Bool.{Bool, true, false, not, ◌&&◌, ◌||◌}
use mathlib.Core.List.{List}
use mathlib.Core.Path.{◌≡◌, refl, sym}
use native.Mathlib.Omega.{arith}
use lib.Dec.{eqb, ltb, leb}
use lib.ListN.{get_or}
use borrow.Author.Tests.{eq-eqb, eqb-true, ltb-false, leb-false, le-ltb, lt-leb, not-false}
use Rattle.laws.proofs.Every.{at, each, every-half}
use Rattle.laws.proofs.Truth.{or-0, or-1}
use Rattle.laws.specs.Every.{every}
use Rattle.machine.specs.State.{el2_enabled, inner_of, outer_of, agree_by, agree, domains_agree, bad_board, bad_fields, bad_state}
use Rattle.machine.specs.declared.processor.Board.{Board}
use Rattle.machine.specs.declared.processor.State.{State}

-- no two processors below the count are "in one inner and different outer domains"
abbrev pub Agreed : Board → Type 0
Agreed b = (p q : ℕ) → p < b.count → q < b.count → inner_of b p ≡ inner_of b q → outer_of b p ≡ outer_of b q

agree-says : (i o : Bool) → (not i || o) ≡ true → i ≡ true → o ≡ true
agree-says true o h e = h
agree-says false o h e = absurd (let z : ◌≡◌ {A = ℕ} 0 1 = cc in omega arith)

agree-made : (i o : Bool) → (i ≡ true → o ≡ true) → (not i || o) ≡ true
agree-made true o h = h refl
agree-made false o h = refl

-- each processor held against those below it is enough, since the rule is the same both ways
pub domains-half : (inner outer : List ℕ) (n : ℕ) → every (λ p. every (agree_by inner outer p) p) n ≡ every (λ p. every (agree_by inner outer p) n) n
domains-half inner outer n = every-half (agree_by inner outer) own turned n
  where
    own : (p : ℕ) → agree_by inner outer p p ≡ true
    own p = simp (eq-eqb (get_or inner p 0) (get_or inner p 0) refl, eq-eqb (get_or outer p 0) (get_or outer p 0) refl)

    same : (a b : ℕ) → eqb a b ≡ true → eqb b a ≡ true
    same a b e = eq-eqb b a (sym (eqb-true a b e))

    turned : (p q : ℕ) → agree_by inner outer p q ≡ true → agree_by inner outer q p ≡ true
    turned p q h =
        let i = eqb (get_or inner p 0) (get_or inner q 0) in
        let o = eqb (get_or outer p 0) (get_or outer q 0) in
        agree-made (eqb (get_or inner q 0) (get_or inner p 0)) (eqb (get_or outer q 0) (get_or outer p 0))
        (λ (e : eqb (get_or inner q 0) (get_or inner p 0) ≡ true). same (get_or outer p 0) (get_or outer q 0) (agree-says i o h (same (get_or inner q 0) (get_or inner p 0) e)))

-- the computed rule says so of every two processors
pub agreed : (b : Board) → domains_agree b ≡ true → Agreed b
unfolding domains_agree
agreed b h p q k l e =
    let row = at (λ (m : ℕ). every (agree b m) b.count) b.count h p k in
    eqb-true _ _ (agree-says (eqb (inner_of b p) (inner_of b q)) _ (at (agree b p) b.count row q l) (eq-eqb _ _ e))

-- and holds where it is so
pub agreed-holds : (b : Board) → Agreed b → domains_agree b ≡ true
unfolding domains_agree
agreed-holds b h =
    each (λ (m : ℕ). every (agree b m) b.count) b.count
    (λ (p : ℕ) (k : p < b.count). each (agree b p) b.count
    (λ (q : ℕ) (l : q < b.count). agree-made (eqb (inner_of b p) (inner_of b q)) _
    (λ (e : eqb (inner_of b p) (inner_of b q) ≡ true). eq-eqb _ _ (h p q k l (eqb-true _ _ e)))))

-- what holds of a state that is not bad: 01's list, each turned round
pub record Good (st : State) : Type 0 where
  pub level : st.el ≤ 3
  pub at_el2 : st.el ≡ 2 → el2_enabled st ≡ true
  pub at_el3 : st.el ≡ 3 → st.present.el3 ≡ true
  pub rme_el3 : st.features.rme ≡ true → st.present.el3 ≡ true
  pub rme_state : (st.features.rme && st.scr.nse && not st.scr.ns) ≡ false
  pub some : 0 < st.board.count
  pub most : st.board.count ≤ 8
  pub own : st.board.own < st.board.count
  pub domains : Agreed st.board

both-not : (a b : Bool) → (a && not b) ≡ false → a ≡ true → b ≡ true
both-not true b h e = not-false b h
both-not false b h e = absurd (let z : ◌≡◌ {A = ℕ} 0 1 = cc in omega arith)

pub good : (st : State) → bad_state st ≡ false → Good st
unfolding bad_state bad_fields bad_board
good st h =
    let over : Bool = ltb 3 st.el in
    let two : Bool = eqb st.el 2 && not (el2_enabled st) in
    let three : Bool = eqb st.el 3 && not st.present.el3 in
    let alone : Bool = st.features.rme && not st.present.el3 in
    let none : Bool = ltb st.board.count 1 in
    let many : Bool = ltb 8 st.board.count in
    let own : Bool = leb st.board.count st.board.own in
    let level = or-0 (bad_fields st) (bad_board st.board) h in
    let board = or-1 (bad_fields st) (bad_board st.board) h in
    let level4 = or-0 (over || two || three || alone) _ level in
    let level3 = or-0 (over || two || three) alone level4 in
    let level2 = or-0 (over || two) three level3 in
    let board3 = or-0 (none || many || own) _ board in
    let board2 = or-0 (none || many) own board3 in
    let some : 1 ≤ st.board.count = ltb-false _ _ (or-0 none many board2) in
    record {
      level = ltb-false _ _ (or-0 over two level2);
      at_el2 = λ (e : st.el ≡ 2). both-not (eqb st.el 2) (el2_enabled st) (or-1 over two level2) (eq-eqb _ _ e);
      at_el3 = λ (e : st.el ≡ 3). both-not (eqb st.el 3) st.present.el3 (or-1 (over || two) three level3) (eq-eqb _ _ e);
      rme_el3 = both-not st.features.rme st.present.el3 (or-1 (over || two || three) alone level4);
      rme_state = or-1 (over || two || three || alone) _ level;
      some = omega arith;
      most = ltb-false _ _ (or-1 none many board2);
      own = leb-false _ _ (or-1 (none || many) own board3);
      domains = agreed st.board (not-false _ (or-1 (none || many || own) _ board));
    }

not-both : (a b : Bool) → (a ≡ true → b ≡ true) → (a && not b) ≡ false
not-both true b h = simp (h refl)
not-both false b h = refl

-- and a state of which all that holds is not bad
pub good-holds : (st : State) → Good st → bad_state st ≡ false
unfolding bad_state bad_fields bad_board
good-holds st g =
    let over : ltb 3 st.el ≡ false = le-ltb _ _ g.level in
    let two : (eqb st.el 2 && not (el2_enabled st)) ≡ false =
    not-both (eqb st.el 2) (el2_enabled st) (λ (e : eqb st.el 2 ≡ true). g.at_el2 (eqb-true _ _ e)) in
    let three : (eqb st.el 3 && not st.present.el3) ≡ false =
    not-both (eqb st.el 3) st.present.el3 (λ (e : eqb st.el 3 ≡ true). g.at_el3 (eqb-true _ _ e)) in
    let alone : (st.features.rme && not st.present.el3) ≡ false = not-both st.features.rme st.present.el3 g.rme_el3 in
    let none : ltb st.board.count 1 ≡ false = le-ltb _ _ g.some in
    let many : ltb 8 st.board.count ≡ false = le-ltb _ _ g.most in
    let own : leb st.board.count st.board.own ≡ false = lt-leb _ _ g.own in
    rw (over, two, three, alone, g.rme_state, none, many, own, agreed-holds st.board g.domains) refl

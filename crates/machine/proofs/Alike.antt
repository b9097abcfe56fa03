-- "only those below the count are read": domains at or above the count have no say.
use Prim.Native.Nat.{ℕ, ◌<◌}
use mathlib.Core.Bool.{Bool, true, false, ◌&&◌}
use mathlib.Core.Path.{◌≡◌, refl, sym, ap, ◌∙◌}
use lib.Dec.{ltb}
use borrow.Author.Tests.{ltb-true}
use Rattle.laws.proofs.Every.{every-same}
use Rattle.laws.proofs.Mask.{mask-same}
use Rattle.laws.specs.Every.{every}
use Rattle.machine.specs.Access.{reaches_by, reaches, reached_of}
use Rattle.machine.specs.State.{inner_of, outer_of, agree, domains_agree, bad_board}
use Rattle.machine.specs.declared.operation.Operation.{Operation}
use Rattle.machine.specs.declared.operation.Share.TheVariants.{Local, Inner, Outer}
use Rattle.machine.specs.declared.operation.Share.{Share}
use Rattle.machine.specs.declared.processor.Board.{Board}
use Rattle.machine.specs.declared.processor.State.{State}

-- two boards that are one as far as the count
pub record Alike (a b : Board) : Type 0 where
  pub own : a.own ≡ b.own
  pub count : a.count ≡ b.count
  pub inner : (p : ℕ) → p < a.count → inner_of a p ≡ inner_of b p
  pub outer : (p : ℕ) → p < a.count → outer_of a p ≡ outer_of b p

agree-alike : (a b : Board) → Alike a b → (p q : ℕ) → p < a.count → q < a.count → agree a p q ≡ agree b p q
agree-alike a b h p q k l = simp (h.inner p k, h.inner q l, h.outer p k, h.outer q l)

domains-alike : (a b : Board) → Alike a b → domains_agree a ≡ domains_agree b
unfolding domains_agree
domains-alike a b h =
    every-same (λ (p : ℕ). every (agree a p) a.count) (λ (p : ℕ). every (agree b p) a.count) a.count
    (λ (p : ℕ) (k : p < a.count). every-same (agree a p) (agree b p) a.count
    (λ (q : ℕ) (l : q < a.count). agree-alike a b h p q k l))
    ∙ ap (λ (n : ℕ). every (λ (p : ℕ). every (agree b p) n) n) h.count

-- they are bad or good alike
pub bad-alike : (a b : Board) → Alike a b → bad_board a ≡ bad_board b
unfolding bad_board
bad-alike a b h = simp (h.count, h.own, domains-alike a b h)

by_alike : (s : Share) (a b : Board) → Alike a b → a.own < a.count → (p : ℕ) → p < a.count → reaches_by s a p ≡ reaches_by s b p
by_alike Local a b h o p k = simp h.own
by_alike Inner a b h o p k =
    let own : inner_of a a.own ≡ inner_of b b.own = h.inner a.own o ∙ ap (inner_of b) h.own in
    simp (h.inner p k, own)
by_alike Outer a b h o p k =
    let own : outer_of a a.own ≡ outer_of b b.own = h.outer a.own o ∙ ap (outer_of b) h.own in
    simp (h.outer p k, own)

-- and an operation reaches the same processors
pub reached-alike : (st other : State) (op : Operation) → Alike st.board other.board → st.board.own < st.board.count →
    reached_of st op ≡ reached_of other op
unfolding reached_of reaches
reached-alike st other op h o = mask-same (reaches st op) (reaches other op) 0 8 (λ (p : ℕ). go p (ltb p st.board.count) refl)
  where
    go : (p : ℕ) (b : Bool) → ltb p st.board.count ≡ b → reaches st op p ≡ reaches other op p
    go p true e =
        ap (λ (c : Bool). c && reaches_by op.share st.board p) (ap (ltb p) h.count)
        ∙ ap (λ (r : Bool). ltb p other.board.count && r) (by_alike op.share st.board other.board h o p (ltb-true p st.board.count e))
    go p false e =
        ap (λ (c : Bool). c && reaches_by op.share st.board p) e
        ∙ ap (λ (c : Bool). c && reaches_by op.share other.board p) (sym e ∙ ap (ltb p) h.count)

use Rattle.std.proofs.Common.{ℕ, List, ◌++◌, length, drop, sym, ap, ◌∙◌, zero-add, arith}
use Rattle.machine.specs.Listing.{tail_of}
use Rattle.text.proofs.Put.{put_front}
use Rattle.listing.proofs.Shown.{tail-full, tail-fits}
use Rattle.listing.proofs.code.list_tail.Goals as goal

pub returns-then-out-k : goal.returns-then-out-k
returns-then-out-k c =
    let s = c.args in
    let none = tail-full s.left (length s.out.now) (omega (arith, c.put_tail-k.ensures.end)) in
    record { value = rw none; out_after = rw none }

pub returns : goal.returns
returns c =
    let s = c.args in
    let p = c.put_tail-k.ensures in
    let all = tail-fits s.left (length s.out.now) (omega (arith, p.end)) in
    let text = c.copy_from_slice.ensures.after ∙ put_front p ∙ sym all in
    record {
      value = rw all (p.end ∙ zero-add (length (tail_of s.left)));
      out_after = ap (λ (l : List ℕ). l ++ drop c.put_tail-k.result s.out.now) text;
    }

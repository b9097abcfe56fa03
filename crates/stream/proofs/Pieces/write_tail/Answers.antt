use Rattle.std.proofs.Common.{◌≡◌, ℕ, List, length, take, drop, subst, ap, sym, ◌∙◌, arith, OnOk}
use Rattle.std.specs.Io.KnownBytes.{Appends}
use Rattle.std.proofs.lemmas.List.{take_at}
use Rattle.machine.specs.Listing.{tail_of, tail_written}
use Rattle.listing.proofs.Shown.{tail-fits}
use Rattle.stream.proofs.Owed.{tail-most}
use Rattle.stream.proofs.Pieces.write_tail.Goals as goal

pub returns : goal.returns
returns g c =
    let s = c.args in
    let k = c.list_tail-k.result in
    let fits = tail-fits s.self.now.held (length s.self.now.text) (omega (arith, tail-most s.self.now.held)) in
    let put = c.list_tail-k.ensures in
    let text : take k c.list_tail-k.new.out ≡ tail_of s.self.now.held =
    ap (take k) put.out_after ∙ take_at (tail_written s.self.now.held (length s.self.now.text)) (drop k s.self.now.text) k (sym put.value) ∙ fits in
    subst (λ (t : List ℕ). OnOk c.write_all.result (Appends (g.W.Write.contents s.output.now) (g.W.Write.contents c.write_all.new.self) t)) text c.write_all.ensures.bytes

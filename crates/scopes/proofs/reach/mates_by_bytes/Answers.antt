use Rattle.std.proofs.Common.{◌≡◌, ℕ, ◌*◌, ◌^◌, ◌<◌, get_or, length, Fits, w8, ap, ap₂, ◌∙◌, arith, rules}
use Rattle.std.specs.Int.Bits.{bit_xor}
use Rattle.scopes.proofs.Eight.{bytes-told}
use Rattle.scopes.specs.Bytes.{gathered_of, zero_bytes}
use Rattle.scopes.proofs.reach.mates_by_bytes.Goals as goal

pub returns : goal.returns
returns c =
    let l = c.args.domains in
    let own = c.args.own in
    let eight : length l ≡ 8 = search rules in
    let bytes : (k : ℕ) → get_or l k 0 < 2 ^ 8 = λ (k : ℕ). (let f : Fits w8 (get_or l k 0) = search rules in f.fits) in
    let difference = ap₂ (λ (x y : ℕ). bit_xor x (y * 0x0101010101010101)) c.number_of.ensures c.domain_at-domain.ensures in
    let told = c.gathered.ensures ∙ ap gathered_of (c.zero_bytes-same.ensures ∙ ap (λ (x : ℕ). zero_bytes x 8) difference) ∙ bytes-told l (get_or l own 0) eight bytes (bytes own) in
    (told, omega (arith, c.gathered.ensures))

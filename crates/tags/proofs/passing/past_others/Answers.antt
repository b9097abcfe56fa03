use Rattle.std.proofs.Common.{◌+◌, ◌-◌, length, drop, ap, ◌∙◌, arith, length-drop}
use Rattle.std.proofs.lemmas.List.{take_all}
use Rattle.std.specs.List.{position_or_len}
use Rattle.laws.proofs.Chunked.{passed-to}
use Rattle.laws.specs.Chunks.{chunks, on_slot, has_key}
use Rattle.tags.proofs.passing.past_others.Goals as goal

pub returns : goal.returns
returns c =
    let a = c.args in
    let p = c.requires in
    let t = a.table.now in
    let all = take_all (length t - (a.from + 3)) (drop (a.from + 3) t) (omega (arith, length-drop (a.from + 3) t)) in
    let e = c.passed.ensures.value ∙ ap (position_or_len (on_slot (has_key a.mask a.key))) (c.as_chunks.ensures.front ∙ ap chunks all) in
    rw e (passed-to a.mask a.key t a.from p.0 p.1 p.2)

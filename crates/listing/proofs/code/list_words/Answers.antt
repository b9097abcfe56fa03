use Rattle.std.proofs.Common.{◌+◌, ◌∙◌, refl, le_refl, arith}
use Rattle.listing.specs.Listed.{word_at}
use Rattle.text.proofs.Put.{put_as}
use Rattle.listing.proofs.Walk.{chunk-within, chunk-word, onward, halted, short, full}
use Rattle.listing.proofs.Shown.{line-here}
use Rattle.listing.proofs.code.list_words.Goals as goal

pub returns-then-not-list_word : goal.returns-then-not-list_word
returns-then-not-list_word c =
    let s = c.args in
    let l = c.loop-word in
    let t = c.as_chunks.ensures in
    let word = chunk-word s.code.now _ l.word-index l.used t.front t.front_len l.invariant.place c.loop-word-test.true in
    let within = chunk-within s.code.now _ l.word-index l.used t.front t.front_len l.invariant.place c.loop-word-test.true in
    let e = line-here (s.at + l.used) (word_at s.code.now l.used) refl (c.from_le_bytes.ensures ∙ word) in
    let none = c.if-not-list_word.ensures.full in
    let h = halted l.invariant.walk (full l.invariant.walk within (rw (← e) none.1)) in
    rw none.0 (record { value = h.0; out_after = h.1; buffer = l.invariant.buffer })

pub loop-word-preserved : goal.loop-word-preserved
loop-word-preserved c =
    let s = c.args in
    let l = c.loop-word in
    let t = c.as_chunks.ensures in
    let word = chunk-word s.code.now _ l.word-index l.used t.front t.front_len l.invariant.place c.loop-word-test.true in
    let within = chunk-within s.code.now _ l.word-index l.used t.front t.front_len l.invariant.place c.loop-word-test.true in
    let e = line-here (s.at + l.used) (word_at s.code.now l.used) refl (c.from_le_bytes.ensures ∙ word) in
    let put = c.if-not-list_word.ensures in
    record {
      walk = onward l.invariant.walk within (put_as put.fits (le_refl _) e);
      place = omega arith;
      line = put.lengths ∙ l.invariant.line;
      buffer = put.buffer ∙ l.invariant.buffer;
    }

pub returns : goal.returns
returns c =
    let l = c.loop-word in
    let h = halted l.invariant.walk (short l.invariant.walk (omega (arith, c.loop-word-test.false, c.as_chunks.ensures.front_len))) in
    record { value = h.0; out_after = h.1; buffer = l.invariant.buffer }

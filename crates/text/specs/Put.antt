-- What it is to put a text behind the first n bytes of a buffer.
use Rattle.std.specs.Prelude.{ℕ, ◌+◌, ◌≤◌, ◌≡◌, List, ◌++◌, length, take, drop}
use Rattle.text.specs.declared.line.Line.{Line}

-- t, of at most `most` bytes, now stands behind the first n bytes, r are the bytes up to its end, and the rest stayed
pub record Put (before : List ℕ) (n : ℕ) (after : List ℕ) (r : ℕ) (t : List ℕ) (most : ℕ) : Type 0 where
  pub low : r ≤ n + most
  pub end : r ≡ n + length t
  pub fits : r ≤ length before
  pub whole : after ≡ take n before ++ t ++ drop r before

-- the buffer of a line has room for so many bytes more
abbrev pub HasRoom : Line → ℕ → Type 0
HasRoom l k = l.len + k ≤ length l.out.now

-- a line gains a text of at most `most` bytes
abbrev pub Gains : Line → Line → List ℕ → ℕ → Type 0
Gains l m t most = Put l.out.now l.len m.out.now m.len t most

-- two lines stand in one buffer
abbrev pub SameBuffer : Line → Line → Type 0
SameBuffer l m = m.out.ghost_name ≡ l.out.ghost_name

-- Putting one text and then another is putting both.
use Prim.Native.Nat.{ℕ, ◌+◌, ◌≤◌}
use mathlib.Core.Path.{◌≡◌, sym, ap, ◌∙◌}
use mathlib.Core.List.{List, [], ◌++◌, append_assoc, append-nil}
use native.Mathlib.Omega.{arith}
use lib.ListN.{length, take, drop, length-append, length-drop, take-append-drop}
use lib.Seq.{take_at, drop_at, drop-drop, length-take-le}
use Rattle.text.specs.Put.{Put}

module _ {b m : List ℕ} {n r : ℕ} {t : List ℕ} {i : ℕ} (x : Put b n m r t i) where
  -- the text so far is as long as it says
  front : length (take n b ++ t) ≡ r
  front =
      let l : n ≤ length b = omega arith in
      length-append (take n b) t ∙ ap (λ (k : ℕ). k + length t) (length-take-le n b l) ∙ sym x.end

  -- the buffer keeps its length
  pub put-length : length m ≡ length b
  put-length = ap length x.whole ∙ length-append (take n b ++ t) (drop r b) ∙ simp (front, length-drop) (omega arith)

  pub put_front : take r m ≡ take n b ++ t
  put_front = ap (take r) x.whole ∙ take_at (take n b ++ t) (drop r b) r front

  pub put_rest : drop r m ≡ drop r b
  put_rest = ap (drop r) x.whole ∙ drop_at (take n b ++ t) (drop r b) r front

  pub put_count : length (take r m) ≡ r
  put_count = length-take-le r m (omega (arith, x.fits, put-length))

pub and_then : {b m a : List ℕ} {n r q : ℕ} {t u : List ℕ} (i j : ℕ) → Put b n m r t i → Put m r a q u j → Put b n a q (t ++ u) (i + j)
and_then {b} {m} {a} {n} {r} {q} {t} {u} i j x y =
    record {
      low = omega arith;
      end = simp length-append (omega arith);
      fits = omega (arith, put-length x);
      whole =
          y.whole
          ∙ ap (λ (l : List ℕ). l ++ u ++ drop q m) (put_front x)
          ∙ ap (λ (l : List ℕ). take n b ++ t ++ u ++ l) rest
          ∙ ap (λ (l : List ℕ). l ++ drop q b) (append_assoc (take n b) t u);
    }
  where
    rest : drop q m ≡ drop q b
    rest =
        let e : q ≡ r + length u = y.end in
        rw e (sym (drop-drop (length u) r m) ∙ ap (drop (length u)) (put_rest x) ∙ drop-drop (length u) r b)

-- a put of a text is one of any text equal to it, and of any larger bound
pub put_as : {b a : List ℕ} {n r : ℕ} {t u : List ℕ} {i j : ℕ} → Put b n a r t i → i ≤ j → t ≡ u → Put b n a r u j
put_as {b} {a} {n} {r} {t} {u} {i} {j} x h e =
    record {
      low = omega arith;
      end = rw (← e) x.end;
      fits = x.fits;
      whole = rw (← e) x.whole;
    }

-- the bound is any that the text keeps to
pub put_most : {b a : List ℕ} {n r : ℕ} {t : List ℕ} {i : ℕ} (j : ℕ) → Put b n a r t i → length t ≤ j → Put b n a r t j
put_most {b} {a} {n} {r} {t} j x h = record { low = omega (arith, x.end); end = x.end; fits = x.fits; whole = x.whole }

-- nothing is put
pub put_none : (b : List ℕ) (n : ℕ) → n ≤ length b → Put b n b n [] 0
put_none b n h =
    record {
      low = omega arith;
      end = omega arith;
      fits = h;
      whole = sym (ap (λ (l : List ℕ). l ++ drop n b) (append-nil (take n b)) ∙ take-append-drop n b);
    }

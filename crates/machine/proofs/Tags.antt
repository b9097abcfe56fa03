-- A tag and the entry that stands in it: each gives the other.
use Prim.Native.Nat.{ℕ, zero, suc, ◌+◌, ◌*◌, ◌/◌, ◌%◌, ◌^◌, ◌<◌, ◌≤◌}
use mathlib.Core.Bool.{Bool, true, false, not, ◌&&◌, ◌||◌}
use mathlib.Core.Logic.{◌↔◌}
use mathlib.Core.Path.{◌≡◌, refl, sym, ap, ap₂, ◌∙◌}
use native.Mathlib.Nat.{mod-lt}
use native.Mathlib.Omega.{arith}
use lib.Dec.{eqb, ltb, leb}
use lib.IntN.{ℤ, pos, ◌-ℤ◌}
use borrow.Author.Tests.{ltb-true, ltb-false, leb-true, eqb-true, eqb-false, le-leb, eq-eqb, ne_eqb, not-false}
use Rattle.laws.proofs.Bits.{digit}
use Rattle.laws.proofs.Truth.{and_0, and-1}
use Rattle.laws.specs.Bits.{bits}
use Rattle.laws.specs.Mask.{bit_of}
use Rattle.machine.proofs.Spans.{by_level, span-tg-most, span-level}
use Rattle.machine.specs.Entry.{is_company, has_asids, is_placed, in_reach, span_of, is_legal}
use Rattle.machine.specs.Span.{is_level, height_of, has_span}
use Rattle.machine.specs.Table.{is_empty, same_company}
use Rattle.machine.specs.Tag.{layout, regime_number, security_number, flag, company_places, entry_places, company_tag, tag_of, regime_at, security_at, company_at, entry_at, is_entry, Sized}
use Rattle.machine.specs.declared.entry.Company.{Company}
use Rattle.machine.specs.declared.entry.Entry.{Entry}
use Rattle.machine.specs.declared.scope.Regime.{Regime}
use Rattle.machine.specs.declared.scope.Regime.TheVariants.{EL10, EL20, EL2, EL3}
use Rattle.machine.specs.declared.scope.Security.{Security}
use Rattle.machine.specs.declared.scope.Security.TheVariants.{Secure, NonSecure, Realm, Root}

-- numbers of regimes, security states and flags, back and forth
pub regime-back : (r : Regime) → regime_at (regime_number r) ≡ r
regime-back EL10 = refl
regime-back EL20 = refl
regime-back EL2 = refl
regime-back EL3 = refl

pub regime-there : (n : ℕ) → n < 4 → regime_number (regime_at n) ≡ n
regime-there zero h = refl
regime-there (suc zero) h = refl
regime-there (suc (suc zero)) h = refl
regime-there (suc (suc (suc n))) h = omega arith

pub regime-last : (n : ℕ) → 3 ≤ n → regime_at n ≡ EL3
regime-last zero h = absurd (omega arith)
regime-last (suc zero) h = absurd (omega arith)
regime-last (suc (suc zero)) h = absurd (omega arith)
regime-last (suc (suc (suc n))) h = refl

pub regime-low : (r : Regime) → regime_number r < 4
regime-low EL10 = omega arith
regime-low EL20 = omega arith
regime-low EL2 = omega arith
regime-low EL3 = omega arith

pub security-back : (s : Security) → security_at (security_number s) ≡ s
security-back Secure = refl
security-back NonSecure = refl
security-back Realm = refl
security-back Root = refl

pub security-there : (n : ℕ) → n < 4 → security_number (security_at n) ≡ n
security-there zero h = refl
security-there (suc zero) h = refl
security-there (suc (suc zero)) h = refl
security-there (suc (suc (suc n))) h = omega arith

pub security-last : (n : ℕ) → 3 ≤ n → security_at n ≡ Root
security-last zero h = absurd (omega arith)
security-last (suc zero) h = absurd (omega arith)
security-last (suc (suc zero)) h = absurd (omega arith)
security-last (suc (suc (suc n))) h = refl

pub security-low : (s : Security) → security_number s < 4
security-low Secure = omega arith
security-low NonSecure = omega arith
security-low Realm = omega arith
security-low Root = omega arith

pub flag-back : (b : Bool) → eqb (flag b) 1 ≡ b
flag-back true = refl
flag-back false = refl

pub flag-there : (n : ℕ) → n < 2 → flag (eqb n 1) ≡ n
flag-there zero h = refl
flag-there (suc zero) h = refl
flag-there (suc (suc n)) h = absurd (omega arith)

pub flag-low : (b : Bool) → flag b < 2
flag-low true = omega arith
flag-low false = omega arith

-- a level's height, and back
pub level-back : (l : ℤ) → is_level l ≡ true → (pos 3 -ℤ pos (height_of l) ≡ l) × (height_of l < 8)
unfolding height_of
level-back l h =
    by_level (λ (m : ℤ). (pos 3 -ℤ pos (height_of m) ≡ m) × (height_of m < 8))
    ((refl, omega arith), (refl, omega arith), (refl, omega arith), (refl, omega arith), (refl, omega arith)) l h

-- what holds at each height of three bits, 0 first, holds at every one
abbrev pub AtHeights {ℓ} : (ℕ → Type ℓ) → Type ℓ
AtHeights P = P 0 × P 1 × P 2 × P 3 × P 4 × P 5 × P 6 × P 7

pub by_height {ℓ} : (P : ℕ → Type ℓ) → AtHeights P → (n : ℕ) → n < 8 → P n
by_height P each zero h = each.0
by_height P each (suc zero) h = each.1
by_height P each (suc (suc zero)) h = each.2
by_height P each (suc (suc (suc zero))) h = each.3
by_height P each (suc (suc (suc (suc zero)))) h = each.4
by_height P each (suc (suc (suc (suc (suc zero))))) h = each.5
by_height P each (suc (suc (suc (suc (suc (suc zero)))))) h = each.6
by_height P each (suc (suc (suc (suc (suc (suc (suc zero))))))) h = each.7
by_height P each (suc (suc (suc (suc (suc (suc (suc (suc n)))))))) h = absurd (omega arith)

pub height-there : (n : ℕ) → n < 8 → height_of (pos 3 -ℤ pos n) ≡ n
unfolding height_of
height-there n h = by_height (λ (m : ℕ). height_of (pos 3 -ℤ pos m) ≡ m) (refl, refl, refl, refl, refl, refl, refl, refl) n h

-- each number of the lower part stands in its place, with more above it
record Low (t r s v g n : ℕ) : Type 0 where
  regime : bits 5 4 t ≡ r
  security : bits 7 6 t ≡ s
  vmid : bits 23 8 t ≡ v
  stage : bits 24 24 t ≡ g
  space : bits 25 25 t ≡ n

low-places : (r s v g n x : ℕ) → r < 4 → s < 4 → v < 2 ^ 16 → g < 2 → n < 2 → Low (company_places r s v g n + x * 2 ^ 26) r s v g n
low-places r s v g n x hr hs hv hg hn = record { regime = omega arith; security = omega arith; vmid = omega arith; stage = omega arith; space = omega arith }

-- and what stands in the places of a number is that number
low-whole : (t : ℕ) → company_places (bits 5 4 t) (bits 7 6 t) (bits 23 8 t) (bits 24 24 t) (bits 25 25 t) ≡ layout + bits 25 4 t * 2 ^ 4
low-whole t =
    sum (t / 2 ^ 4) (t / 2 ^ 6) (t / 2 ^ 8) (t / 2 ^ 24) (t / 2 ^ 25) (t / 2 ^ 26) (bits 5 4 t) (bits 7 6 t) (bits 23 8 t) (bits 24 24 t) (bits 25 25 t)
    (bits 25 4 t) (digit t 4 2) (digit t 6 2) (digit t 8 16) (digit t 24 1) (digit t 25 1) (digit t 4 22)
  where
    sum : (a b c d e f r s v g n w : ℕ) → a ≡ b * 4 + r → b ≡ c * 4 + s → c ≡ d * 65536 + v → d ≡ e * 2 + g → e ≡ f * 2 + n → a ≡ f * 4194304 + w →
        company_places r s v g n ≡ layout + w * 2 ^ 4
    sum a b c d e f r s v g n w h1 h2 h3 h4 h5 h6 = omega arith

-- the upper part likewise
record High (t g a b w h l x p : ℕ) : Type 0 where
  granule : bits 27 26 t ≡ g
  asid : bits 43 28 t ≡ a
  global : bits 44 44 t ≡ b
  wide : bits 45 45 t ≡ w
  height : bits 48 46 t ≡ h
  leaf : bits 49 49 t ≡ l
  xs : bits 50 50 t ≡ x
  processor : bits 53 51 t ≡ p

high-places : (c g a b w h l x p : ℕ) → c < 2 ^ 26 → g < 4 → a < 2 ^ 16 → b < 2 → w < 2 → h < 8 → l < 2 → x < 2 → p < 8 →
    High (entry_places c g a b w h l x p) g a b w h l x p
high-places c g a b w h l x p hc hg ha hb hw hh hl hx hp =
    record {
      granule = omega arith;
      asid = omega arith;
      global = omega arith;
      wide = omega arith;
      height = omega arith;
      leaf = omega arith;
      xs = omega arith;
      processor = omega arith;
    }

high-whole : (c t : ℕ) →
    entry_places c (bits 27 26 t) (bits 43 28 t) (bits 44 44 t) (bits 45 45 t) (bits 48 46 t) (bits 49 49 t) (bits 50 50 t) (bits 53 51 t)
    ≡ c + bits 53 26 t * 2 ^ 26
high-whole c t =
    sum (t / 2 ^ 26) (t / 2 ^ 28) (t / 2 ^ 44) (t / 2 ^ 45) (t / 2 ^ 46) (t / 2 ^ 49) (t / 2 ^ 50) (t / 2 ^ 51) (t / 2 ^ 54) (bits 27 26 t)
    (bits 43 28 t) (bits 44 44 t) (bits 45 45 t) (bits 48 46 t) (bits 49 49 t) (bits 50 50 t) (bits 53 51 t) (bits 53 26 t) (digit t 26 2) (digit t 28 16) (digit t 44 1) (digit t 45 1) (digit t 46 3) (digit t 49 1) (digit t 50 1) (digit t 51 3) (digit t 26 28)
  where
    sum : (a₀ a₁ a₂ a₃ a₄ a₅ a₆ a₇ a₈ g a b w h l x p r : ℕ) → a₀ ≡ a₁ * 4 + g → a₁ ≡ a₂ * 65536 + a → a₂ ≡ a₃ * 2 + b → a₃ ≡ a₄ * 2 + w → a₄ ≡ a₅ * 8 + h →
        a₅ ≡ a₆ * 2 + l → a₆ ≡ a₇ * 2 + x → a₇ ≡ a₈ * 8 + p → a₀ ≡ a₈ * 268435456 + r → entry_places c g a b w h l x p ≡ c + r * 2 ^ 26
    sum a₀ a₁ a₂ a₃ a₄ a₅ a₆ a₇ a₈ g a b w h l x p r h1 h2 h3 h4 h5 h6 h7 h8 h9 = omega arith

-- the lower part of a tag is below 2^26
pub company-low : (c : Company) → c.vmid < 2 ^ 16 → company_tag c < 2 ^ 26
unfolding company_tag
company-low c h = omega (arith, regime-low c.regime, security-low c.security, flag-low c.stage2, flag-low c.ns)

-- records with equal fields are equal
pub company-same : {r₀ r₁ : Regime} {s₀ s₁ : Security} {v₀ v₁ : ℕ} {g₀ g₁ n₀ n₁ : Bool} → r₀ ≡ r₁ → s₀ ≡ s₁ → v₀ ≡ v₁ → g₀ ≡ g₁ → n₀ ≡ n₁ →
    ◌≡◌ {A = Company} (record { regime = r₀; security = s₀; vmid = v₀; stage2 = g₀; ns = n₀ })
    (record { regime = r₁; security = s₁; vmid = v₁; stage2 = g₁; ns = n₁ })
company-same r s v g n = cc

-- and gives the company back, whatever stands above it
pub company-back : (c : Company) (x : ℕ) → c.vmid < 2 ^ 16 → company_at (company_tag c + x * 2 ^ 26) ≡ c
unfolding company_tag company_at
company-back c x h =
    let at = low-places (regime_number c.regime) (security_number c.security) c.vmid (flag c.stage2) (flag c.ns) x
    (regime-low c.regime) (security-low c.security) h (flag-low c.stage2) (flag-low c.ns) in
    company-same (ap regime_at at.regime ∙ regime-back c.regime) (ap security_at at.security ∙ security-back c.security) at.vmid
    (ap (λ (m : ℕ). eqb m 1) at.stage ∙ flag-back c.stage2) (ap (λ (m : ℕ). eqb m 1) at.space ∙ flag-back c.ns)

-- the company that stands in a number has its places as its lower part
pub company-there : (t : ℕ) → company_tag (company_at t) ≡ layout + bits 25 4 t * 2 ^ 4
unfolding company_tag company_at
company-there t =
    let r : regime_number (regime_at (bits 5 4 t)) ≡ bits 5 4 t = regime-there (bits 5 4 t) (mod-lt (t / 2 ^ 4) (omega arith)) in
    let s : security_number (security_at (bits 7 6 t)) ≡ bits 7 6 t = security-there (bits 7 6 t) (mod-lt (t / 2 ^ 6) (omega arith)) in
    let g : flag (bit_of t 24) ≡ bits 24 24 t = flag-there (bits 24 24 t) (mod-lt (t / 2 ^ 24) (omega arith)) in
    let n : flag (bit_of t 25) ≡ bits 25 25 t = flag-there (bits 25 25 t) (mod-lt (t / 2 ^ 25) (omega arith)) in
    low_same (bits 23 8 t) r s g n ∙ low-whole t
  where
    low_same : (v : ℕ) {r₀ r₁ s₀ s₁ g₀ g₁ n₀ n₁ : ℕ} → r₀ ≡ r₁ → s₀ ≡ s₁ → g₀ ≡ g₁ → n₀ ≡ n₁ → company_places r₀ s₀ v g₀ n₀ ≡ company_places r₁ s₁ v g₁ n₁
    low_same v r s g n = omega arith

pub entry-same : {p₀ p₁ a₀ a₁ g₀ g₁ : ℕ} {c₀ c₁ : Company} {b₀ b₁ w₀ w₁ f₀ f₁ x₀ x₁ : Bool} {l₀ l₁ : ℤ} (base : ℕ) → p₀ ≡ p₁ → c₀ ≡ c₁ → a₀ ≡ a₁ → b₀ ≡ b₁ → w₀ ≡ w₁ →
    g₀ ≡ g₁ → l₀ ≡ l₁ → f₀ ≡ f₁ → x₀ ≡ x₁ →
    ◌≡◌ {A = Entry}
    (record { processor = p₀; company = c₀; asid = a₀; global = b₀; wide = w₀; granule = g₀; level = l₀; leaf = f₀; xs = x₀; base = base })
    (record { processor = p₁; company = c₁; asid = a₁; global = b₁; wide = w₁; granule = g₁; level = l₁; leaf = f₁; xs = x₁; base = base })
entry-same base p c a b w g l f x = cc

-- "a slot that insert wrote reads back as every field"
pub entry-back : (e : Entry) → Sized e → e.processor ≤ 7 → e.granule ≤ 3 → is_level e.level ≡ true → entry_at e.base (tag_of e) ≡ e
unfolding tag_of entry_at
entry-back e z hp hg hl =
    let (lb, lh) = level-back e.level hl in
    let at = high-places (company_tag e.company) e.granule e.asid (flag e.global) (flag e.wide) (height_of e.level) (flag e.leaf) (flag e.xs) e.processor
    (company-low e.company z.0) (omega arith) z.1 (flag-low e.global) (flag-low e.wide) lh (flag-low e.leaf) (flag-low e.xs) (omega arith) in
    entry-same e.base at.processor (company-of e.granule e.asid (flag e.global) (flag e.wide) (height_of e.level) (flag e.leaf) (flag e.xs) e.processor)
    at.asid (one e.global at.global) (one e.wide at.wide) at.granule (ap (λ (n : ℕ). pos 3 -ℤ pos n) at.height ∙ lb) (one e.leaf at.leaf) (one e.xs at.xs)
  where
    one : {n : ℕ} (b : Bool) → n ≡ flag b → eqb n 1 ≡ b
    one b h = ap (λ (m : ℕ). eqb m 1) h ∙ flag-back b

    company-of : (g a b w h l x p : ℕ) → company_at (entry_places (company_tag e.company) g a b w h l x p) ≡ e.company
    company-of g a b w h l x p =
        let more : ℕ = g + a * 2 ^ 2 + b * 2 ^ 18 + w * 2 ^ 19 + h * 2 ^ 20 + l * 2 ^ 23 + x * 2 ^ 24 + p * 2 ^ 25 in
        let above : entry_places (company_tag e.company) g a b w h l x p ≡ company_tag e.company + more * 2 ^ 26 = omega arith in
        ap company_at above ∙ company-back e.company more z.0

-- what stands in a number, and is written again, is the number if it has the layout number and nothing above its places
pub entry-there : (base t : ℕ) → tag_of (entry_at base t) ≡ layout + bits 53 4 t * 2 ^ 4
unfolding tag_of entry_at
entry-there base t =
    let b : flag (bit_of t 44) ≡ bits 44 44 t = flag-there (bits 44 44 t) (mod-lt (t / 2 ^ 44) (omega arith)) in
    let w : flag (bit_of t 45) ≡ bits 45 45 t = flag-there (bits 45 45 t) (mod-lt (t / 2 ^ 45) (omega arith)) in
    let h : height_of (pos 3 -ℤ pos (bits 48 46 t)) ≡ bits 48 46 t = height-there (bits 48 46 t) (mod-lt (t / 2 ^ 46) (omega arith)) in
    let l : flag (bit_of t 49) ≡ bits 49 49 t = flag-there (bits 49 49 t) (mod-lt (t / 2 ^ 49) (omega arith)) in
    let x : flag (bit_of t 50) ≡ bits 50 50 t = flag-there (bits 50 50 t) (mod-lt (t / 2 ^ 50) (omega arith)) in
    high_same (bits 27 26 t) (bits 43 28 t) (bits 53 51 t) (company-there t) b w h l x ∙ high-whole (layout + bits 25 4 t * 2 ^ 4) t
    ∙ sum (t / 2 ^ 4) (t / 2 ^ 26) (t / 2 ^ 54) (bits 25 4 t) (bits 53 26 t) (bits 53 4 t) (digit t 4 22) (digit t 26 28) (digit t 4 50)
  where
    high_same : (g a p : ℕ) {c₀ c₁ b₀ b₁ w₀ w₁ h₀ h₁ l₀ l₁ x₀ x₁ : ℕ} → c₀ ≡ c₁ → b₀ ≡ b₁ → w₀ ≡ w₁ → h₀ ≡ h₁ → l₀ ≡ l₁ → x₀ ≡ x₁ →
        entry_places c₀ g a b₀ w₀ h₀ l₀ x₀ p ≡ entry_places c₁ g a b₁ w₁ h₁ l₁ x₁ p
    high_same g a p c b w h l x = omega arith

    sum : (a b c d e f : ℕ) → a ≡ b * 4194304 + d → b ≡ c * 268435456 + e → a ≡ c * 1125899906842624 + f → layout + d * 2 ^ 4 + e * 2 ^ 26 ≡ layout + f * 2 ^ 4
    sum a b c d e f h1 h2 h3 = omega arith

-- so a slot's tag is that of its own fields exactly if it has the layout number and nothing above its places
pub tag-whole : (base t : ℕ) → eqb (tag_of (entry_at base t)) t ≡ (eqb (t % 2 ^ 4) layout && ltb t (2 ^ 54))
tag-whole base t = ap (λ (m : ℕ). eqb m t) (entry-there base t) ∙ go (eqb (t % 2 ^ 4) layout) refl (ltb t (2 ^ 54)) refl
  where
    go : (p : Bool) → eqb (t % 2 ^ 4) layout ≡ p → (q : Bool) → ltb t (2 ^ 54) ≡ q → eqb (layout + bits 53 4 t * 2 ^ 4) t ≡ (p && q)
    go true hp true hq = eq-eqb (layout + bits 53 4 t * 2 ^ 4) t (omega (arith, eqb-true (t % 2 ^ 4) layout hp, ltb-true t (2 ^ 54) hq))
    go true hp false hq = ne_eqb (layout + bits 53 4 t * 2 ^ 4) t (λ e. omega (arith, ltb-false t (2 ^ 54) hq))
    go false hp q hq = ne_eqb (layout + bits 53 4 t * 2 ^ 4) t (λ e. eqb-false (t % 2 ^ 4) layout hp (omega arith))

-- the rules that a legal entry keeps, one by one
pub record Legal (e : Entry) : Type 0 where
  pub processor : e.processor ≤ 7
  pub company : is_company e.company ≡ true
  pub asids : (has_asids e.company || (eqb e.asid 0 && not e.global)) ≡ true
  pub placed : is_placed e.leaf e.level e.global ≡ true
  pub span : has_span e.wide e.granule e.level ≡ true
  pub multiple : e.base % 2 ^ span_of e ≡ 0
  pub reach : in_reach e.company e.base ≡ true

pub legal : (e : Entry) → is_legal e ≡ true → Legal e
unfolding is_legal
legal e h6 =
    let a1 = leb e.processor 7 in
    let a2 = is_company e.company in
    let a3 = has_asids e.company || (eqb e.asid 0 && not e.global) in
    let a4 = is_placed e.leaf e.level e.global in
    let s = has_span e.wide e.granule e.level in
    let m = eqb (e.base % 2 ^ span_of e) 0 in
    let a6 = in_reach e.company e.base in
    let h5 = and_0 (a1 && a2 && a3 && a4 && (s && m)) a6 h6 in
    let h4 = and_0 (a1 && a2 && a3 && a4) (s && m) h5 in
    let h3 = and_0 (a1 && a2 && a3) a4 h4 in
    let h2 = and_0 (a1 && a2) a3 h3 in
    let stands = and-1 (a1 && a2 && a3 && a4) (s && m) h5 in
    record {
      processor = leb-true _ _ (and_0 a1 a2 h2);
      company = and-1 a1 a2 h2;
      asids = and-1 (a1 && a2) a3 h3;
      placed = and-1 (a1 && a2 && a3) a4 h4;
      span = and_0 s m stands;
      multiple = eqb-true _ _ (and-1 s m stands);
      reach = and-1 (a1 && a2 && a3 && a4 && (s && m)) a6 h6;
    }

pub legal-holds : (e : Entry) → Legal e → is_legal e ≡ true
unfolding is_legal
legal-holds e k =
    simp (le-leb _ _ k.processor, k.company, k.asids, k.placed, k.span, eq-eqb _ _ k.multiple, k.reach)

-- "a slot that insert wrote reads back as every field": what a legal entry has for base and tag reads as an entry, and as that one
pub written-reads : (e : Entry) → Sized e → is_legal e ≡ true → (is_entry e.base (tag_of e) ≡ true) × (entry_at e.base (tag_of e) ≡ e)
unfolding is_entry
written-reads e z h =
    let k = legal e h in
    let back = entry-back e z k.processor (span-tg-most e.wide e.granule e.level k.span) (span-level e.wide e.granule e.level k.span) in
    (ap (λ (f : Entry). is_legal f && eqb (tag_of f) (tag_of e)) back ∙ (simp (h, eq-eqb (tag_of e) (tag_of e) refl)), back)

-- and a slot that reads as an entry is one that a legal entry has
pub reads-written : (base tag : ℕ) → is_entry base tag ≡ true →
    Sized (entry_at base tag) × (is_legal (entry_at base tag) ≡ true) × ((entry_at base tag).base ≡ base) × (tag_of (entry_at base tag) ≡ tag)
unfolding is_entry entry_at company_at
reads-written base tag h =
    let l = is_legal (entry_at base tag) in
    let w = eqb (tag_of (entry_at base tag)) tag in
    ((mod-lt (tag / 2 ^ 8) (omega arith), mod-lt (tag / 2 ^ 28) (omega arith)), and_0 l w h, refl, eqb-true _ _ (and-1 l w h))

-- a slot is written where a legal entry and an output word give its three words
pub record Written (a b c : ℕ) : Type 0 where
  pub entry : Entry
  pub output : ℕ
  pub sized : Sized entry
  pub ok : is_legal entry ≡ true
  pub base : entry.base ≡ a
  pub tag : tag_of entry ≡ b
  pub word : output ≡ c

-- and reads as an entry exactly then: "A slot that insert couldn't have written makes no sense and reads as empty"
pub reads-exactly : (a b c : ℕ) → (is_empty a b c ≡ false) ↔ Written a b c
reads-exactly a b c = (there, back)
  where
    there : is_empty a b c ≡ false → Written a b c
    there h =
        let w = reads-written a b (not-false (is_entry a b) h) in
        record { entry = entry_at a b; output = c; sized = w.0; ok = w.1; base = w.2; tag = w.3; word = refl }

    back : Written a b c → is_empty a b c ≡ false
    back w = ap₂ (λ (x y : ℕ). is_empty x y c) (sym w.base) (sym w.tag) ∙ ap not (written-reads w.entry w.sized w.ok).0

-- an entry's tag has the layout number
pub entry-layout : (base tag : ℕ) → is_entry base tag ≡ true → tag % 2 ^ 4 ≡ layout
unfolding is_entry
entry-layout base tag h =
    let l = is_legal (entry_at base tag) in
    let w = eqb (tag_of (entry_at base tag)) tag in
    eqb-true (tag % 2 ^ 4) layout (and_0 (eqb (tag % 2 ^ 4) layout) (ltb tag (2 ^ 54)) (sym (tag-whole base tag) ∙ and-1 l w h))

pub entry-low : (base tag : ℕ) → is_entry base tag ≡ true → tag < 2 ^ 54
unfolding is_entry
entry-low base tag h =
    let l = is_legal (entry_at base tag) in
    let w = eqb (tag_of (entry_at base tag)) tag in
    ltb-true tag (2 ^ 54) (and-1 (eqb (tag % 2 ^ 4) layout) (ltb tag (2 ^ 54)) (sym (tag-whole base tag) ∙ and-1 l w h))

-- "as all zeros does": a tag of zero is nobody's
pub zero-empty : (base : ℕ) → is_entry base 0 ≡ false
unfolding is_entry
zero-empty base = ap (λ (b : Bool). is_legal (entry_at base 0) && b) (tag-whole base 0) ∙ never (is_legal (entry_at base 0))
  where
    never : (b : Bool) → (b && false) ≡ false
    never true = refl
    never false = refl

-- companies agree in every part exactly if they are one
pub company-one : (c d : Company) → same_company c d ≡ true → c ≡ d
unfolding same_company
company-one c d h4 =
    let r = eqb (regime_number c.regime) (regime_number d.regime) in
    let s = eqb (security_number c.security) (security_number d.security) in
    let v = eqb c.vmid d.vmid in
    let g = eqb (flag c.stage2) (flag d.stage2) in
    let n = eqb (flag c.ns) (flag d.ns) in
    let h3 = and_0 (r && s && v && g) n h4 in
    let h2 = and_0 (r && s && v) g h3 in
    let h1 = and_0 (r && s) v h2 in
    company-same
    (back regime_at regime_number regime-back c.regime d.regime (and_0 r s h1))
    (back security_at security_number security-back c.security d.security (and-1 r s h1))
    (eqb-true c.vmid d.vmid (and-1 (r && s) v h2))
    (back (λ (m : ℕ). eqb m 1) flag flag-back c.stage2 d.stage2 (and-1 (r && s && v) g h3))
    (back (λ (m : ℕ). eqb m 1) flag flag-back c.ns d.ns (and-1 (r && s && v && g) n h4))
  where
    back : {A : Type 0} (f : ℕ → A) (g : A → ℕ) → ((a : A) → f (g a) ≡ a) → (a b : A) → eqb (g a) (g b) ≡ true → a ≡ b
    back f g e a b h = sym (e a) ∙ ap f (eqb-true (g a) (g b) h) ∙ e b

pub company-self : (c : Company) → same_company c c ≡ true
unfolding same_company
company-self c =
    simp (
      eq-eqb (regime_number c.regime) (regime_number c.regime) refl,
      eq-eqb (security_number c.security) (security_number c.security) refl,
      eq-eqb c.vmid c.vmid refl,
      eq-eqb (flag c.stage2) (flag c.stage2) refl,
      eq-eqb (flag c.ns) (flag c.ns) refl,
    )

-- a company's part of a tag stands for it
pub key-company : (c : Company) → c.vmid < 2 ^ 16 → company_at (company_tag c) ≡ c
key-company c h = let z : company_tag c ≡ company_tag c + 0 * 2 ^ 26 = omega arith in ap company_at z ∙ company-back c 0 h

pub key-layout : (c : Company) → company_tag c % 2 ^ 4 ≡ layout
unfolding company_tag
key-layout c = omega arith

-- and exactly if their parts of a tag are one number
pub company-tags : (c d : Company) → c.vmid < 2 ^ 16 → d.vmid < 2 ^ 16 → same_company c d ≡ eqb (company_tag c) (company_tag d)
company-tags c d hc hd = go (same_company c d) refl
  where
    go : (b : Bool) → same_company c d ≡ b → b ≡ eqb (company_tag c) (company_tag d)
    go true h = sym (eq-eqb _ _ (ap company_tag (company-one c d h)))
    go false h = sym (ne_eqb (company_tag c) (company_tag d) (λ e. differ (sym (key-company c hc) ∙ ap company_at e ∙ key-company d hd)))
      where
        differ : c ≡ d → ⊥
        differ e = let t : same_company c d ≡ true = ap (same_company c) (sym e) ∙ company-self c in let z : ◌≡◌ {A = ℕ} 0 1 = cc in omega arith

pub vmid-low : (t : ℕ) → (company_at t).vmid < 2 ^ 16
unfolding company_at
vmid-low t = mod-lt (t / 2 ^ 8) (omega arith)

-- so one compare of the tag's lower part tells whether a slot is of a company
pub company-at : (c : Company) (t : ℕ) → c.vmid < 2 ^ 16 → t % 2 ^ 4 ≡ layout → same_company (company_at t) c ≡ eqb (t % 2 ^ 26) (company_tag c)
company-at c t hc ht =
    let u : layout + bits 25 4 t * 2 ^ 4 ≡ t % 2 ^ 26 = omega arith in
    company-tags (company_at t) c (vmid-low t) hc ∙ ap (λ (n : ℕ). eqb n (company_tag c)) (company-there t ∙ u)

-- and of the company that a number stands for
pub company-key : (key t : ℕ) → key % 2 ^ 4 ≡ layout → key < 2 ^ 26 → t % 2 ^ 4 ≡ layout → same_company (company_at t) (company_at key) ≡ eqb (t % 2 ^ 26) key
company-key key t hk hl ht =
    let k : layout + bits 25 4 key * 2 ^ 4 ≡ key = omega arith in
    company-at (company_at key) t (vmid-low key) ht ∙ ap (eqb (t % 2 ^ 26)) (company-there key ∙ k)

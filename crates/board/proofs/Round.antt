-- What C gives is taken number for number, and what C gets it can give again.
use Prim.Native.Nat.{ℕ, zero, suc, ◌%◌, ◌^◌, ◌<◌, ◌≤◌}
use mathlib.Core.Bool.{Bool, true, false, cond, ◌&&◌}
use mathlib.Core.List.{[], ◌∷◌}
use mathlib.Core.Path.{◌≡◌, refl, sym, ap, ◌∙◌}
use native.Mathlib.Nat.{mod-eq_of_lt}
use native.Mathlib.Omega.{arith}
use lib.Dec.{eqb, ltb, lit<}
use lib.IntN.{ℤ, pos, ◌-ℤ◌}
use borrow.Author.Tests.{eqb-true, ltb-true, lt-ltb}
use Rattle.laws.proofs.Truth.{and_0, and-1, clash}
use Rattle.machine.proofs.Spans.{by_level, span-tg-most, span-level}
use Rattle.machine.proofs.Tags.{regime-back, regime-there, regime-low, security-back, security-there, security-low, flag-back, flag-there, flag-low, company-same, entry-same, legal}
use Rattle.machine.specs.Entry.{is_legal}
use Rattle.machine.specs.Span.{is_level, height_of}
use Rattle.machine.specs.Tag.{flag, regime_number, security_number, Sized}
use Rattle.machine.specs.declared.entry.Company.{Company}
use Rattle.machine.specs.declared.entry.Entry.{Entry}
use Rattle.machine.specs.declared.operation.Name.{Name}
use Rattle.machine.specs.declared.operation.Name.TheVariants.{RVAE1, RVAAE1, RVALE1, RVAALE1, RVAE2, RVALE2, RVAE3, RVALE3, RIPAS2E1, RIPAS2LE1}
use Rattle.machine.specs.declared.operation.Operation.{Operation}
use Rattle.machine.specs.declared.operation.Share.{Share}
use Rattle.machine.specs.declared.operation.Share.TheVariants.{Local, Inner, Outer}
use Rattle.received.specs.Entries.{company_fits, company_in, entry_fits, entry_in}
use Rattle.received.specs.Numbers.{is_flag, flag_in, is_regime, level_in}
use Rattle.received.specs.Operations.{name_at, share_at, operation_fits, operation_in}
use Rattle.received.specs.declared.entry.CompanyRecord.{CompanyRecord}
use Rattle.received.specs.declared.entry.EntryRecord.{EntryRecord}
use Rattle.received.specs.declared.operation.OperationRecord.{OperationRecord}
use Rattle.returned.specs.Words.{level_word, entry_words, name_number, share_number}

-- names, shareabilities and levels, both ways
pub name_back : (n : Name) → name_at (name_number n) ≡ n
unfolding name_at
name_back RVAE1 = refl
name_back RVAAE1 = refl
name_back RVALE1 = refl
name_back RVAALE1 = refl
name_back RVAE2 = refl
name_back RVALE2 = refl
name_back RVAE3 = refl
name_back RVALE3 = refl
name_back RIPAS2E1 = refl
name_back RIPAS2LE1 = refl

pub name-there : (n : ℕ) → n < 10 → name_number (name_at n) ≡ n
unfolding name_at
name-there zero h = refl
name-there (suc zero) h = refl
name-there (suc (suc zero)) h = refl
name-there (suc (suc (suc zero))) h = refl
name-there (suc (suc (suc (suc zero)))) h = refl
name-there (suc (suc (suc (suc (suc zero))))) h = refl
name-there (suc (suc (suc (suc (suc (suc zero)))))) h = refl
name-there (suc (suc (suc (suc (suc (suc (suc zero))))))) h = refl
name-there (suc (suc (suc (suc (suc (suc (suc (suc zero)))))))) h = refl
name-there (suc (suc (suc (suc (suc (suc (suc (suc (suc zero))))))))) h = refl
name-there (suc (suc (suc (suc (suc (suc (suc (suc (suc (suc n)))))))))) h = absurd (omega arith)

pub share_back : (s : Share) → share_at (share_number s) ≡ s
unfolding share_at
share_back Local = refl
share_back Inner = refl
share_back Outer = refl

pub share-there : (n : ℕ) → n < 3 → share_number (share_at n) ≡ n
unfolding share_at
share-there zero h = refl
share-there (suc zero) h = refl
share-there (suc (suc zero)) h = refl
share-there (suc (suc (suc n))) h = absurd (omega arith)

pub level-back : (l : ℤ) → is_level l ≡ true → level_in (level_word l) ≡ l
unfolding level_in level_word is_level height_of
level-back l h = by_level (λ (z : ℤ). level_in (level_word z) ≡ z) (refl, refl, refl, refl, refl) l h

pub level-there : (x : ℕ) → is_level (level_in x) ≡ true → level_word (level_in x) ≡ x
unfolding level_in level_word is_level height_of
level-there x = go (eqb x 0) refl (eqb x 1) refl (eqb x 2) refl (eqb x 3) refl (eqb x 18446744073709551615) refl
  where
    level : Bool → Bool → Bool → Bool → Bool → ℤ
    level a b c d e = cond a (pos 0) (cond b (pos 1) (cond c (pos 2) (cond d (pos 3) (cond e (pos 0 -ℤ pos 1) (pos 4)))))

    go : (a : Bool) → eqb x 0 ≡ a → (b : Bool) → eqb x 1 ≡ b → (c : Bool) → eqb x 2 ≡ c → (d : Bool) → eqb x 3 ≡ d → (e : Bool) → eqb x 18446744073709551615 ≡ e →
        is_level (level a b c d e) ≡ true → level_word (level a b c d e) ≡ x
    go true a b _ c _ d _ e _ h = sym (eqb-true x 0 a)
    go false _ true b c _ d _ e _ h = sym (eqb-true x 1 b)
    go false _ false _ true c d _ e _ h = sym (eqb-true x 2 c)
    go false _ false _ false _ true d e _ h = sym (eqb-true x 3 d)
    go false _ false _ false _ false _ true e h = sym (eqb-true x 18446744073709551615 e)
    go false _ false _ false _ false _ false _ h = clash h refl

-- a number of so many values
under : (x n : ℕ) → ltb x n ≡ true → x % n ≡ x
under x n h = mod-eq_of_lt (ltb-true x n h)

-- and one of fewer than a byte has
byte : (x n : ℕ) → n ≤ 256 → ltb x n ≡ true → x % 256 ≡ x
byte x n most h = let low : x < 256 = omega (arith, ltb-true x n h, most) in mod-eq_of_lt low

-- the records of a company and an entry
abbrev pub company_of : Company → CompanyRecord
company_of c = record { regime = regime_number c.regime; security = security_number c.security; vmid = c.vmid; stage2 = flag c.stage2; ns = flag c.ns }

abbrev pub record_of : Entry → EntryRecord
record_of e = record {
  processor = e.processor;
  company = company_of e.company;
  asid = e.asid;
  global = flag e.global;
  wide = flag e.wide;
  granule = e.granule;
  level = level_word e.level;
  leaf = flag e.leaf;
  xs = flag e.xs;
  base = e.base;
}

-- the words that C gets are the record's, field by field
pub words-record : (e : Entry) (n : ℕ) →
    let r = record_of e in
    entry_words e n
    ≡ r.processor ∷ r.company.regime ∷ r.company.security ∷ r.company.vmid ∷ r.company.stage2 ∷ r.company.ns ∷ r.asid ∷ r.global ∷ r.wide ∷ r.granule
    ∷ r.level ∷ r.leaf ∷ r.xs ∷ r.base ∷ n ∷ []
unfolding entry_words
words-record e n = refl

-- each field of a record that fits is taken as it is
company-record : {r₀ r₁ s₀ s₁ v₀ v₁ t₀ t₁ n₀ n₁ : ℕ} → r₀ ≡ r₁ → s₀ ≡ s₁ → v₀ ≡ v₁ → t₀ ≡ t₁ → n₀ ≡ n₁ →
    ◌≡◌ {A = CompanyRecord} (record { regime = r₀; security = s₀; vmid = v₀; stage2 = t₀; ns = n₀ }) (record { regime = r₁; security = s₁; vmid = v₁; stage2 = t₁; ns = n₁ })
company-record r s v t n = cc

entry-record : {p₀ p₁ a₀ a₁ b₀ b₁ w₀ w₁ g₀ g₁ l₀ l₁ f₀ f₁ x₀ x₁ : ℕ} {c₀ c₁ : CompanyRecord} (base : ℕ) → p₀ ≡ p₁ → c₀ ≡ c₁ → a₀ ≡ a₁ → b₀ ≡ b₁ → w₀ ≡ w₁ → g₀ ≡ g₁ →
    l₀ ≡ l₁ → f₀ ≡ f₁ → x₀ ≡ x₁ →
    ◌≡◌ {A = EntryRecord}
    (record { processor = p₀; company = c₀; asid = a₀; global = b₀; wide = w₀; granule = g₀; level = l₀; leaf = f₀; xs = x₀; base = base })
    (record { processor = p₁; company = c₁; asid = a₁; global = b₁; wide = w₁; granule = g₁; level = l₁; leaf = f₁; xs = x₁; base = base })
entry-record base p c a b w g l f x = cc

flag-taken : (x : ℕ) → is_flag x ≡ true → flag (flag_in x) ≡ x
flag-taken x h = flag-there x (ltb-true x 2 h)

company-taken : (c : CompanyRecord) → company_fits c ≡ true → company_of (company_in c) ≡ c
unfolding company_in
company-taken c h5 =
    let r = is_regime c.regime in
    let s = ltb c.security 4 in
    let v = ltb c.vmid 65536 in
    let t = is_flag c.stage2 in
    let n = is_flag c.ns in
    let h4 = and_0 (r && s && v && t) n h5 in
    let h3 = and_0 (r && s && v) t h4 in
    let h2 = and_0 (r && s) v h3 in
    company-record (regime-there c.regime (ltb-true c.regime 4 (and_0 r s h2))) (security-there c.security (ltb-true c.security 4 (and-1 r s h2))) (under c.vmid 65536 (and-1 (r && s) v h3))
    (flag-taken c.stage2 (and-1 (r && s && v) t h4)) (flag-taken c.ns (and-1 (r && s && v && t) n h5))

pub entry-taken : (e : EntryRecord) → entry_fits e ≡ true → record_of (entry_in e) ≡ e
unfolding entry_in entry_fits
entry-taken e whole =
    let c = company_fits e.company in
    let p = ltb e.processor 8 in
    let a = ltb e.asid 65536 in
    let g = ltb e.granule 4 in
    let b = is_flag e.global in
    let w = is_flag e.wide in
    let f = is_flag e.leaf in
    let x = is_flag e.xs in
    let numbers = p && a && g in
    let flags = b && w && f && x in
    let h = and_0 (c && numbers && flags) (is_level (level_in e.level)) whole in
    let l = and-1 (c && numbers && flags) (is_level (level_in e.level)) whole in
    let cn = and_0 (c && numbers) flags h in
    let hn = and-1 c numbers cn in
    let hf = and-1 (c && numbers) flags h in
    let pa = and_0 (p && a) g hn in
    let bwf = and_0 (b && w && f) x hf in
    let bw = and_0 (b && w) f bwf in
    entry-record e.base (ap (λ (y : Bool). cond y (e.processor % 256) 255) whole ∙ byte e.processor 8 (omega arith) (and_0 p a pa)) (company-taken e.company (and_0 c numbers cn))
    (under e.asid 65536 (and-1 p a pa)) (flag-taken e.global (and_0 b w bw)) (flag-taken e.wide (and-1 b w bw)) (byte e.granule 4 (omega arith) (and-1 (p && a) g hn))
    (level-there e.level l) (flag-taken e.leaf (and-1 (b && w) f bwf)) (flag-taken e.xs (and-1 (b && w && f) x hf))

-- what the library tells fits
fits : {x n : ℕ} → x < n → ltb x n ≡ true
fits {x} {n} h = lt-ltb x n h

company-fits : (c : Company) → c.vmid < 2 ^ 16 → company_fits (company_of c) ≡ true
company-fits c v =
    simp (fits (regime-low c.regime), fits (security-low c.security), fits v, fits (flag-low c.stage2), fits (flag-low c.ns))

entry-fits : (e : Entry) → Sized e → e.processor ≤ 7 → e.granule ≤ 3 → is_level e.level ≡ true → entry_fits (record_of e) ≡ true
unfolding entry_fits
entry-fits e z p g l =
    let n : e.processor < 8 = omega arith in
    let m : e.granule < 4 = omega arith in
    simp (
      company-fits e.company z.0,
      fits n,
      fits z.1,
      fits m,
      fits (flag-low e.global),
      fits (flag-low e.wide),
      fits (flag-low e.leaf),
      fits (flag-low e.xs),
      level-back e.level l,
      l,
    )

company-again : (c : Company) → c.vmid < 2 ^ 16 → company_in (company_of c) ≡ c
unfolding company_in
company-again c v = company-same (regime-back c.regime) (security-back c.security) (mod-eq_of_lt v) (flag-back c.stage2) (flag-back c.ns)

-- a legal entry that C got is that entry when C gives it again
pub entry-again : (e : Entry) → Sized e → is_legal e ≡ true → entry_in (record_of e) ≡ e
unfolding entry_in
entry-again e z h =
    let k = legal e h in
    let g : e.granule ≤ 3 = span-tg-most e.wide e.granule e.level k.span in
    let l : is_level e.level ≡ true = span-level e.wide e.granule e.level k.span in
    let low : e.processor < 256 = omega (arith, k.processor) in
    let small : e.granule < 256 = omega arith in
    let processor = ap (λ (y : Bool). cond y (e.processor % 256) 255) (entry-fits e z k.processor g l) ∙ mod-eq_of_lt low in
    entry-same e.base processor (company-again e.company z.0) (mod-eq_of_lt z.1) (flag-back e.global) (flag-back e.wide) (mod-eq_of_lt small)
    (level-back e.level l) (flag-back e.leaf) (flag-back e.xs)

-- an operation's numbers are taken as they are, and an operation that C got is that operation when C gives it again
abbrev pub operation_of : Operation → OperationRecord
operation_of o = record { name = name_number o.name; share = share_number o.share; nxs = flag o.nxs; tlbip = flag o.tlbip; rt = o.rt }

operation-record : {n₀ n₁ s₀ s₁ x₀ x₁ t₀ t₁ r₀ r₁ : ℕ} → n₀ ≡ n₁ → s₀ ≡ s₁ → x₀ ≡ x₁ → t₀ ≡ t₁ → r₀ ≡ r₁ →
    ◌≡◌ {A = OperationRecord} (record { name = n₀; share = s₀; nxs = x₀; tlbip = t₀; rt = r₀ }) (record { name = n₁; share = s₁; nxs = x₁; tlbip = t₁; rt = r₁ })
operation-record n s x t r = cc

operation-same : {n₀ n₁ : Name} {s₀ s₁ : Share} {x₀ x₁ t₀ t₁ : Bool} {r₀ r₁ : ℕ} → n₀ ≡ n₁ → s₀ ≡ s₁ → x₀ ≡ x₁ → t₀ ≡ t₁ → r₀ ≡ r₁ →
    ◌≡◌ {A = Operation} (record { name = n₀; share = s₀; nxs = x₀; tlbip = t₀; rt = r₀ }) (record { name = n₁; share = s₁; nxs = x₁; tlbip = t₁; rt = r₁ })
operation-same n s x t r = cc

pub operation-taken : (o : OperationRecord) → operation_fits o ≡ true → operation_of (operation_in o) ≡ o
unfolding operation_in operation_fits
operation-taken o h5 =
    let n = ltb o.name 10 in
    let s = ltb o.share 3 in
    let x = is_flag o.nxs in
    let t = is_flag o.tlbip in
    let r = ltb o.rt 32 in
    let h4 = and_0 (n && s && x && t) r h5 in
    let h3 = and_0 (n && s && x) t h4 in
    let h2 = and_0 (n && s) x h3 in
    operation-record (name-there o.name (ltb-true o.name 10 (and_0 n s h2))) (share-there o.share (ltb-true o.share 3 (and-1 n s h2))) (flag-taken o.nxs (and-1 (n && s) x h3))
    (flag-taken o.tlbip (and-1 (n && s && x) t h4)) (ap (λ (y : Bool). cond y (o.rt % 32) 255) h5 ∙ under o.rt 32 (and-1 (n && s && x && t) r h5))

name-low : (n : Name) → name_number n < 10
name-low RVAE1 = lit< tt
name-low RVAAE1 = lit< tt
name-low RVALE1 = lit< tt
name-low RVAALE1 = lit< tt
name-low RVAE2 = lit< tt
name-low RVALE2 = lit< tt
name-low RVAE3 = lit< tt
name-low RVALE3 = lit< tt
name-low RIPAS2E1 = lit< tt
name-low RIPAS2LE1 = lit< tt

share-low : (s : Share) → share_number s < 3
share-low Local = lit< tt
share-low Inner = lit< tt
share-low Outer = lit< tt

pub operation-again : (o : Operation) → o.rt < 32 → operation_in (operation_of o) ≡ o
unfolding operation_in operation_fits
operation-again o r =
    let all : operation_fits (operation_of o) ≡ true = simp (fits (name-low o.name), fits (share-low o.share), fits (flag-low o.nxs), fits (flag-low o.tlbip), fits r) in
    operation-same (name_back o.name) (share_back o.share) (flag-back o.nxs) (flag-back o.tlbip) (ap (λ (y : Bool). cond y (o.rt % 32) 255) all ∙ mod-eq_of_lt r)

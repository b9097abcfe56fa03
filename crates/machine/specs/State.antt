-- 01, "Processor state": what follows from the fields, and which states are bad.
use Rattle.std.specs.Prelude.{ℕ, Bool, true, false, cond, not, ◌&&◌, ◌||◌, List, eqb, ltb, leb, get_or}
use Rattle.laws.specs.Every.{every}
use Rattle.machine.specs.declared.processor.Board.{Board}
use Rattle.machine.specs.declared.processor.State.{State}
use Rattle.machine.specs.declared.scope.Regime.{Regime}
use Rattle.machine.specs.declared.scope.Regime.TheVariants.{EL10, EL20, EL2, EL3}
use Rattle.machine.specs.declared.scope.Security.{Security}
use Rattle.machine.specs.declared.scope.Security.TheVariants.{Secure, NonSecure, Realm, Root}

abbrev pub is_secure : Security → Bool
is_secure Secure = true
is_secure NonSecure = false
is_secure Realm = false
is_secure Root = false

-- "Without EL3 the state is Non-secure. Otherwise {NSE, NS} (RME) or NS gives it.": NS 0 is Secure, NS 1 Non-secure,
-- and {1, 1} Realm; {1, 0} is a bad state
unfoldable pub security_of : State → Security
security_of st =
    cond st.present.el3
    (cond st.scr.ns (cond (st.features.rme && st.scr.nse) Realm NonSecure) Secure)
    NonSecure

-- "EL3's own is Root with RME, else Secure."
abbrev pub own_security : State → Security
own_security st = cond st.features.rme Root Secure

-- the security state of a regime
unfoldable pub security_in : State → Regime → Security
security_in st EL10 = security_of st
security_in st EL20 = security_of st
security_in st EL2 = security_of st
security_in st EL3 = own_security st

-- "EL2 is enabled when present and either the state isn't Secure or SEL2 and EEL2 are both 1."
unfoldable pub el2_enabled : State → Bool
el2_enabled st = st.present.el2 && (not (is_secure (security_of st)) || (st.features.sel2 && st.scr.eel2))

-- "E2H and TGE count as 0 while EL2 is disabled"
abbrev pub e2h_of : State → Bool
e2h_of st = el2_enabled st && st.hcr.e2h

abbrev pub tge_of : State → Bool
tge_of st = el2_enabled st && st.hcr.tge

-- "The VMID used is 0 while EL2 is disabled."
abbrev pub vmid_of : State → ℕ
vmid_of st = cond (el2_enabled st) st.vmid 0

-- "VMID (0 outside EL1&0)"
unfoldable pub vmid_in : State → Regime → ℕ
vmid_in st EL10 = vmid_of st
vmid_in st EL20 = 0
vmid_in st EL2 = 0
vmid_in st EL3 = 0

-- "HCRX is live when HCX holds, EL3 is absent or HXEn is 1, and EL2 is enabled."
unfoldable pub hcrx_live : State → Bool
hcrx_live st = st.features.hcx && (not st.present.el3 || st.scr.hxen) && el2_enabled st

-- the inner and the outer domain of processor p
abbrev pub inner_of : Board → ℕ → ℕ
inner_of b p = get_or b.inner p 0

abbrev pub outer_of : Board → ℕ → ℕ
outer_of b p = get_or b.outer p 0

-- processors p and q are not "in one inner and different outer domains"
abbrev pub agree_by : List ℕ → List ℕ → ℕ → ℕ → Bool
agree_by inner outer p q = not (eqb (get_or inner p 0) (get_or inner q 0)) || eqb (get_or outer p 0) (get_or outer q 0)

abbrev pub agree : Board → ℕ → ℕ → Bool
agree b p q = agree_by b.inner b.outer p q

-- no "two processors in one inner and different outer domains (only those below the count are read)"
unfoldable pub domains_agree : Board → Bool
domains_agree b = every (λ p. every (agree b p) b.count) b.count

-- "count not 1 to 8; own number not below it; two processors in one inner and different outer domains"
unfoldable pub bad_board : Board → Bool
bad_board b = ltb b.count 1 || ltb 8 b.count || leb b.count b.own || not (domains_agree b)

-- "EL over 3; at EL2 with it absent or disabled; at EL3 with it absent; RME without EL3; RME with {NSE, NS} = {1, 0}"
unfoldable pub bad_fields : State → Bool
bad_fields st =
    ltb 3 st.el
    || (eqb st.el 2 && not (el2_enabled st))
    || (eqb st.el 3 && not st.present.el3)
    || (st.features.rme && not st.present.el3)
    || (st.features.rme && st.scr.nse && not st.scr.ns)

-- "Bad: ..."
unfoldable pub bad_state : State → Bool
bad_state st = bad_fields st || bad_board st.board

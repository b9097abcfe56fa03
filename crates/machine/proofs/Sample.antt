-- States to compute with, each by its level and the names of what is set in it; and companies, entries and slots.
use Prim.Native.Nat.{ℕ}
use mathlib.Core.Bool.{Bool, true, false, not, ◌||◌}
use mathlib.Core.List.{List, [], ◌∷◌, ◌++◌}
use lib.Dec.{eqb}
use lib.IntN.{ℤ, pos}
use Rattle.machine.specs.Tag.{tag_of}
use Rattle.machine.specs.declared.entry.Company.{Company}
use Rattle.machine.specs.declared.entry.Entry.{Entry}
use Rattle.machine.specs.declared.processor.Board.{Board}
use Rattle.machine.specs.declared.processor.Ds.{Ds}
use Rattle.machine.specs.declared.processor.Features.{Features}
use Rattle.machine.specs.declared.processor.Flags.{Flags}
use Rattle.machine.specs.declared.processor.State.{State}
use Rattle.machine.specs.declared.processor.Traps.{Traps}
use Rattle.machine.specs.declared.scope.Regime.{Regime}
use Rattle.machine.specs.declared.scope.Regime.TheVariants.{EL10}
use Rattle.machine.specs.declared.scope.Security.{Security}
use Rattle.machine.specs.declared.scope.Security.TheVariants.{NonSecure}

-- EL2 and EL3 present
abbrev pub two : ℕ
two = 0

abbrev pub three : ℕ
three = 1

-- SCR_EL3
abbrev pub NS : ℕ
NS = 2

abbrev pub NSE : ℕ
NSE = 3

abbrev pub EEL2 : ℕ
EEL2 = 4

abbrev pub FGTEn : ℕ
FGTEn = 5

abbrev pub HXEn : ℕ
HXEn = 6

-- HCR_EL2
abbrev pub E2H : ℕ
E2H = 7

abbrev pub TGE : ℕ
TGE = 8

abbrev pub TTLB : ℕ
TTLB = 9

abbrev pub TTLBIS : ℕ
TTLBIS = 10

abbrev pub TTLBOS : ℕ
TTLBOS = 11

abbrev pub NV : ℕ
NV = 12

-- HCRX_EL2
abbrev pub FnXS : ℕ
FnXS = 13

abbrev pub FGTnXS : ℕ
FGTnXS = 14

-- every fine-grained trap flag
abbrev pub flagged : ℕ
flagged = 15

-- features that are there only where they are named
abbrev pub RME : ℕ
RME = 16

abbrev pub SEL2 : ℕ
SEL2 = 17

-- and features that are there unless they are named as absent
abbrev pub no_range : ℕ
no_range = 18

abbrev pub no_os : ℕ
no_os = 19

abbrev pub no_d128 : ℕ
no_d128 = 20

abbrev pub no_xs : ℕ
no_xs = 21

abbrev pub no_fgt : ℕ
no_fgt = 22

abbrev pub no_hcx : ℕ
no_hcx = 23

abbrev pub no_lpa2 : ℕ
no_lpa2 = 24

abbrev pub has : List ℕ → ℕ → Bool
has [] n = false
has (x ∷ l) n = eqb x n || has l n

abbrev pub features_of : List ℕ → Features
features_of l = record {
  tlbirange = not (has l no_range);
  tlbios = not (has l no_os);
  d128 = not (has l no_d128);
  xs = not (has l no_xs);
  lpa2 = not (has l no_lpa2);
  rme = has l RME;
  sel2 = has l SEL2;
  fgt = not (has l no_fgt);
  hcx = not (has l no_hcx);
}

abbrev pub flags_by : Bool → Flags
flags_by b = record { local = b; inner = b; outer = b }

abbrev pub traps_by : Bool → Traps
traps_by b = record { rvae1 = flags_by b; rvaae1 = flags_by b; rvale1 = flags_by b; rvaale1 = flags_by b }

-- a state on a board, with the DS bits, and VMID 7
abbrev pub state_on : Board → Ds → ℕ → List ℕ → State
state_on board ds el l = record {
  el = el;
  present = record { el2 = has l two; el3 = has l three };
  features = features_of l;
  scr = record { ns = has l NS; nse = has l NSE; eel2 = has l EEL2; fgten = has l FGTEn; hxen = has l HXEn };
  hcr = record {
    e2h = has l E2H;
    tge = has l TGE;
    ttlb = has l TTLB;
    ttlbis = has l TTLBIS;
    ttlbos = has l TTLBOS;
    nv = has l NV;
  };
  hcrx = record { fnxs = has l FnXS; fgtnxs = has l FGTnXS };
  traps = traps_by (has l flagged);
  ds = ds;
  vmid = 7;
  board = board;
}

-- number 1 of 3 processors, of which 0 and 1 are in one inner domain
abbrev pub three-processors : Board
three-processors = record {
  own = 1;
  count = 3;
  inner = 4 ∷ 4 ∷ 5 ∷ 4 ∷ 4 ∷ 4 ∷ 4 ∷ 4 ∷ [];
  outer = 9 ∷ 9 ∷ 9 ∷ 8 ∷ 8 ∷ 8 ∷ 8 ∷ 8 ∷ [];
}

abbrev pub at : ℕ → List ℕ → State
at = state_on three-processors (record { el1 = false; el2 = false; el3 = false; stage2 = false })

-- at EL1 on a board of n processors with number o the own, and the domains of the first three; the others are in one
abbrev pub boarded : ℕ → ℕ → List ℕ → List ℕ → State
boarded n o inner outer = state_on (record {
  own = o;
  count = n;
  inner = inner ++ (9 ∷ 9 ∷ 9 ∷ 9 ∷ 9 ∷ []);
  outer = outer ++ (9 ∷ 9 ∷ 9 ∷ 9 ∷ 9 ∷ []);
}) (record { el1 = false; el2 = false; el3 = false; stage2 = false }) 1 []

-- at EL2, {E2H, TGE} 11, with DS number k alone set: EL1's, EL2's, EL3's, stage 2's
abbrev pub host_with_ds : ℕ → List ℕ → State
host_with_ds k l =
    state_on three-processors (record { el1 = eqb k 0; el2 = eqb k 1; el3 = eqb k 2; stage2 = eqb k 3 }) 2 (two ∷ E2H ∷ TGE ∷ l)

-- Companies: stage 1 with a VMID; stage 2 with a VMID and an IPA space.
abbrev pub stage1 : Regime → Security → ℕ → Company
stage1 r s v = record { regime = r; security = s; vmid = v; stage2 = false; ns = false }

abbrev pub stage2 : Regime → Security → ℕ → Bool → Company
stage2 r s v n = record { regime = r; security = s; vmid = v; stage2 = true; ns = n }

abbrev pub guest : Company
guest = stage1 EL10 NonSecure 7

-- A 64-bit 4K page; one of processor 1 without an ASID; and an entry of any width, granule and level, with XS, of processor 1 and ASID 9.
abbrev pub page_of : Company → ℕ → ℕ → Bool → ℕ → Entry
page_of c p asid global base =
    record { processor = p; company = c; asid = asid; global = global; wide = false; granule = 1; level = pos 3; leaf = true; xs = false; base = base }

abbrev pub page : Company → ℕ → Entry
page c base = page_of c 1 0 false base

abbrev pub placed_of : Bool → ℕ → ℤ → Bool → Bool → ℕ → Entry
placed_of wide tg l leaf global base =
    record { processor = 1; company = guest; asid = 9; global = global; wide = wide; granule = tg; level = l; leaf = leaf; xs = true; base = base }

-- Slots as words.
abbrev pub slot : Entry → ℕ → List ℕ
slot e out = e.base ∷ tag_of e ∷ out ∷ []

abbrev pub zeros : List ℕ
zeros = 0 ∷ 0 ∷ 0 ∷ []

-- a slot that makes no sense
abbrev pub junk : List ℕ
junk = 5 ∷ 6 ∷ 7 ∷ []

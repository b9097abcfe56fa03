-- The processor state that C's record stands for.
use Rattle.std.specs.Prelude.{ℕ, Bool, cond, ◌&&◌}
use Rattle.received.specs.Numbers.{is_flag, flag_in}
use Rattle.machine.specs.declared.processor.Present.{Present}
use Rattle.machine.specs.declared.processor.Features.{Features}
use Rattle.machine.specs.declared.processor.Scr.{Scr}
use Rattle.machine.specs.declared.processor.Hcr.{Hcr}
use Rattle.machine.specs.declared.processor.Hcrx.{Hcrx}
use Rattle.machine.specs.declared.processor.Flags.{Flags}
use Rattle.machine.specs.declared.processor.Traps.{Traps}
use Rattle.machine.specs.declared.processor.Ds.{Ds}
use Rattle.machine.specs.declared.processor.Board.{Board}
use Rattle.machine.specs.declared.processor.State.{State}
use Rattle.received.specs.declared.state.PresentRecord.{PresentRecord}
use Rattle.received.specs.declared.state.FeaturesRecord.{FeaturesRecord}
use Rattle.received.specs.declared.state.ScrRecord.{ScrRecord}
use Rattle.received.specs.declared.state.HcrRecord.{HcrRecord}
use Rattle.received.specs.declared.state.HcrxRecord.{HcrxRecord}
use Rattle.received.specs.declared.state.FlagsRecord.{FlagsRecord}
use Rattle.received.specs.declared.state.TrapsRecord.{TrapsRecord}
use Rattle.received.specs.declared.state.DsRecord.{DsRecord}
use Rattle.received.specs.declared.state.BoardRecord.{BoardRecord}
use Rattle.received.specs.declared.state.StateRecord.{StateRecord}

-- each register's flags, and whether each is 0 or 1
abbrev pub present_in : PresentRecord → Present
present_in p = record { el2 = flag_in p.el2; el3 = flag_in p.el3 }

abbrev pub present_fit : PresentRecord → Bool
present_fit p = is_flag p.el2 && is_flag p.el3

abbrev pub features_in : FeaturesRecord → Features
features_in f = record { tlbirange = flag_in f.tlbirange; tlbios = flag_in f.tlbios; d128 = flag_in f.d128; xs = flag_in f.xs; lpa2 = flag_in f.lpa2; rme = flag_in f.rme; sel2 = flag_in f.sel2; fgt = flag_in f.fgt; hcx = flag_in f.hcx }

abbrev pub features_fit : FeaturesRecord → Bool
features_fit f = is_flag f.tlbirange && is_flag f.tlbios && is_flag f.d128 && is_flag f.xs && is_flag f.lpa2 && is_flag f.rme && is_flag f.sel2 && is_flag f.fgt && is_flag f.hcx

abbrev pub scr_in : ScrRecord → Scr
scr_in s = record { ns = flag_in s.ns; nse = flag_in s.nse; eel2 = flag_in s.eel2; fgten = flag_in s.fgten; hxen = flag_in s.hxen }

abbrev pub scr_fit : ScrRecord → Bool
scr_fit s = is_flag s.ns && is_flag s.nse && is_flag s.eel2 && is_flag s.fgten && is_flag s.hxen

abbrev pub hcr_in : HcrRecord → Hcr
hcr_in h = record { e2h = flag_in h.e2h; tge = flag_in h.tge; ttlb = flag_in h.ttlb; ttlbis = flag_in h.ttlbis; ttlbos = flag_in h.ttlbos; nv = flag_in h.nv }

abbrev pub hcr_fit : HcrRecord → Bool
hcr_fit h = is_flag h.e2h && is_flag h.tge && is_flag h.ttlb && is_flag h.ttlbis && is_flag h.ttlbos && is_flag h.nv

abbrev pub hcrx_in : HcrxRecord → Hcrx
hcrx_in h = record { fnxs = flag_in h.fnxs; fgtnxs = flag_in h.fgtnxs }

abbrev pub hcrx_fit : HcrxRecord → Bool
hcrx_fit h = is_flag h.fnxs && is_flag h.fgtnxs

abbrev pub flags_in : FlagsRecord → Flags
flags_in f = record { local = flag_in f.local; inner = flag_in f.inner; outer = flag_in f.outer }

abbrev pub flags_fit : FlagsRecord → Bool
flags_fit f = is_flag f.local && is_flag f.inner && is_flag f.outer

abbrev pub traps_in : TrapsRecord → Traps
traps_in t = record { rvae1 = flags_in t.rvae1; rvaae1 = flags_in t.rvaae1; rvale1 = flags_in t.rvale1; rvaale1 = flags_in t.rvaale1 }

abbrev pub traps_fit : TrapsRecord → Bool
traps_fit t = flags_fit t.rvae1 && flags_fit t.rvaae1 && flags_fit t.rvale1 && flags_fit t.rvaale1

abbrev pub ds_in : DsRecord → Ds
ds_in d = record { el1 = flag_in d.el1; el2 = flag_in d.el2; el3 = flag_in d.el3; stage2 = flag_in d.stage2 }

abbrev pub ds_fit : DsRecord → Bool
ds_fit d = is_flag d.el1 && is_flag d.el2 && is_flag d.el3 && is_flag d.stage2

abbrev pub board_in : BoardRecord → Board
board_in b = record { own = b.own; count = b.count; inner = b.inner; outer = b.outer }

unfoldable pub state_fits : StateRecord → Bool
state_fits s =
    present_fit s.present
    && features_fit s.features
    && scr_fit s.scr
    && hcr_fit s.hcr
    && hcrx_fit s.hcrx
    && traps_fit s.traps
    && ds_fit s.ds

-- "EL over 3" is a bad state; with a flag that is neither 0 nor 1 the exception level counts as 4
abbrev pub el_in : StateRecord → ℕ
el_in s = cond (state_fits s) s.el 4

unfoldable pub state_in : StateRecord → State
state_in s = record {
  el = el_in s;
  present = present_in s.present;
  features = features_in s.features;
  scr = scr_in s.scr;
  hcr = hcr_in s.hcr;
  hcrx = hcrx_in s.hcrx;
  traps = traps_in s.traps;
  ds = ds_in s.ds;
  vmid = s.vmid;
  board = board_in s.board;
}

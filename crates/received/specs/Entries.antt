-- The company and the entry that C's records stand for.
use Rattle.std.specs.Prelude.{ℕ, ◌%◌, Bool, cond, ◌&&◌, ltb, Result, Ok, Err}
use Rattle.machine.specs.Span.{is_level}
use Rattle.machine.specs.Tag.{regime_at, security_at}
use Rattle.machine.specs.declared.entry.Company.{Company}
use Rattle.machine.specs.declared.entry.Entry.{Entry}
use Rattle.received.specs.Numbers.{is_flag, flag_in, is_regime, level_in}
use Rattle.received.specs.declared.entry.CompanyRecord.{CompanyRecord}
use Rattle.received.specs.declared.entry.EntryRecord.{EntryRecord}
use Rattle.machine.specs.declared.refusal.Refusal.{Refusal}
use Rattle.machine.specs.declared.refusal.Refusal.TheVariants.{Illegal}

-- the values that the fields of a company can have, and the company; its regime and its security state have the numbers that they have in a tag
abbrev pub company_fits : CompanyRecord → Bool
company_fits c = is_regime c.regime && ltb c.security 4 && ltb c.vmid 65536 && is_flag c.stage2 && is_flag c.ns

unfoldable pub company_in : CompanyRecord → Company
company_in c = record {
  regime = regime_at c.regime;
  security = security_at c.security;
  vmid = c.vmid % 65536;
  stage2 = flag_in c.stage2;
  ns = flag_in c.ns;
}

-- the same of an entry: "processor (0 to 7)", a granule as TG is given, of two bits, a level
unfoldable pub entry_fits : EntryRecord → Bool
entry_fits e =
    company_fits e.company
    && (ltb e.processor 8 && ltb e.asid 65536 && ltb e.granule 4)
    && (is_flag e.global && is_flag e.wide && is_flag e.leaf && is_flag e.xs)
    && is_level (level_in e.level)

-- where a field does not fit, the processor counts as 255, which is none
abbrev pub processor_in : EntryRecord → ℕ
processor_in e = cond (entry_fits e) (e.processor % 256) 255

unfoldable pub entry_in : EntryRecord → Entry
entry_in e = record {
  processor = processor_in e;
  company = company_in e.company;
  asid = e.asid % 65536;
  global = flag_in e.global;
  wide = flag_in e.wide;
  granule = e.granule % 256;
  level = level_in e.level;
  leaf = flag_in e.leaf;
  xs = flag_in e.xs;
  base = e.base;
}

-- the entry, where each field fits
abbrev pub entry_from : EntryRecord → Result Entry Refusal
entry_from e = cond (entry_fits e) (Ok (entry_in e)) (Err Illegal)

-- What the entries of an index tell, taken one after the other.
use Rattle.std.specs.Prelude.{◌≡◌, ◌⊎◌, ℕ, ◌+◌, ◌-◌, ◌*◌, ◌<◌, ◌≤◌, ◌==◌, ◌&&◌, if◌then◌else◌, Bool, false, List, [], ◌∷◌, length, take, slice_get, Option, Some, None, Result, Ok, Err}
use Rattle.volume_forms.specs.declared.Entry.{Entry}
use Rattle.volume_forms.specs.Kept.{entry_end, kept_length}
use Rattle.site_model.specs.declared.error.OpenFault.{OpenFault}
use Rattle.site_model.specs.declared.error.OpenFault.TheVariants as open_fault
use Rattle.dat_volume.specs.declared.fault.GetFault.{GetFault}
use Rattle.dat_volume.specs.declared.fault.GetFault.TheVariants as get_fault
use Rattle.dat_volume.specs.declared.chain.Chain.{Chain}
use Rattle.dat_volume.specs.declared.opening.Kept.{Kept}
use Rattle.dat_volume.specs.Opening.{is_size, chained, has_record_of, accepted}
use Rattle.dat_volume.specs.Laws.Opening.{PassesEntries, HasEarlier}

abbrev pub no_chain : Chain
no_chain = record { count = 0; chained = 0; last = None; before = None; earlier = None }

-- where the entry's record ends, or the super block where there is none
abbrev pub end_behind : Option Entry → ℕ
end_behind None = 8
end_behind (Some e) = entry_end e

-- all entries so far follow each other, and this one follows them
abbrev pub goes_on : Chain → Entry → Bool
goes_on chain e = (chain.chained == chain.count) && (8 * e.offset == end_behind chain.last) && is_size e.size

-- one entry more
abbrev pub with_entry : Chain → Entry → Chain
with_entry chain e = record { count = chain.count + 1; chained = if goes_on chain e then chain.chained + 1 else chain.chained; last = Some e; before = chain.last; earlier = chain.before }

unfoldable pub with_entries : Chain → List Entry → Chain
with_entries chain [] = chain
with_entries chain (e ∷ es) = with_entries (with_entry chain e) es

-- This is told of these entries: how many they are, how many follow each other, and the last three, of which the last two
-- with their ends.
pub record HasChain (es : List Entry) (chain : Chain) : Type 0 where
  pub count : chain.count ≡ length es
  pub chained : chain.chained ≡ chained 8 es
  pub last_end : end_behind chain.last ≡ kept_length es
  pub before_end : end_behind chain.before ≡ kept_length (take (length es - 1) es)
  pub last : chain.last ≡ slice_get es (length es - 1)
  pub before : 2 ≤ length es → chain.before ≡ slice_get es (length es - 2)
  pub no_before : length es < 2 → chain.before ≡ None
  pub earlier : 3 ≤ length es → chain.earlier ≡ slice_get es (length es - 3)
  pub no_earlier : length es < 3 → chain.earlier ≡ None

-- Why the entries don't pass: a gap before the last one, or the last but one is without its record.
abbrev pub FailsEntries : List ℕ → List Entry → Type 0
FailsEntries dat es = (chained 8 es + 1 < length es) ⊎ ((2 ≤ length es) × (has_record_of dat es (length es - 2) ≡ false))

-- What is kept of these entries, which pass, or nothing where they don't: then they fail, or the last isn't kept and the
-- last but two is without its record.
abbrev pub IsAccepted : List ℕ → List Entry → Option Kept → Type 0
IsAccepted dat es (Some kept) = PassesEntries dat es × HasEarlier dat es × (kept.count ≡ accepted dat es) × (kept.end ≡ kept_length (take kept.count es))
IsAccepted dat es None = FailsEntries dat es ⊎ ((accepted dat es < length es) × (3 ≤ length es) × (has_record_of dat es (length es - 3) ≡ false))

-- a record that is damaged isn't there
abbrev pub unless_damaged : GetFault → Result Bool OpenFault
unless_damaged (get_fault.Fault device) = Err (open_fault.Fault device.server)
unless_damaged (get_fault.Damaged w a b) = Ok false
unless_damaged get_fault.Memory = Err open_fault.Memory

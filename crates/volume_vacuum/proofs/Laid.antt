-- How entries are laid out one after the other.
use Rattle.std.proofs.Common.{◌≡◌, ℕ, ◌+◌, ◌*◌, ◌≤◌, ◌<◌, List, [], ◌∷◌, ◌++◌, cond, Option, None, sym, ◌∙◌, ap, subst, arith, append_assoc}
use Rattle.std.specs.FinMap.{empty, insert}
use Rattle.std.proofs.lemmas.Bool.{lt-ltb, le-ltb}
use Rattle.std.proofs.lemmas.List.{append-nil}
use Rattle.world_model.specs.declared.types.What.TheVariants as what
use Rattle.volume_forms.specs.declared.Entry.{Entry}
use Rattle.volume_forms.specs.Forms.{entry_bytes}
use Rattle.volume_forms.specs.Kept.{entry_end}
use Rattle.needle_record.specs.Records.{Index}
use Rattle.dat_volume.specs.declared.fault.GetFault.{GetFault}
use Rattle.dat_volume.specs.declared.fault.GetFault.TheVariants as get_fault
use Rattle.dat_volume.specs.Needles.{Damage, damage_of, HasDifference}
use Rattle.dat_volume.specs.Reading.{Tells}
use Rattle.volume_vacuum.specs.Copies.{length_by, entry_moved, moved_entries, moved_end, with_all, index_bytes, overlap}

-- so far the entries before these are laid out, and the last of them ends here
pub record HasLaid (entries rest : List Entry) (index : Index) (bytes : List ℕ) (end behind : ℕ) : Type 0 where
  pub apart : overlap behind rest ≡ overlap 8 entries
  pub in_index : with_all index (moved_entries end rest) ≡ with_all empty (moved_entries 8 entries)
  pub in_bytes : bytes ++ index_bytes (moved_entries end rest) ≡ index_bytes (moved_entries 8 entries)
  pub ends : moved_end end rest ≡ moved_end 8 entries
  pub within : end ≤ behind

-- the next one begins too early
pub laid_overlaps : {entries rest more : List Entry} {index : Index} {bytes : List ℕ} {end behind at : ℕ} (e : Entry) → rest ≡ e ∷ more → at ≡ 8 * e.offset → at < behind
    → HasLaid entries rest index bytes end behind → overlap 8 entries ≡ damage_of what.End behind at
unfolding overlap
laid_overlaps {entries} {rest} {more} {index} {bytes} {end} {behind} {at} e is place early so_far =
    sym so_far.apart ∙ ap (overlap behind) is
    ∙ ap (λ b. cond b (damage_of what.End behind (8 * e.offset)) (overlap (entry_end e) more)) (lt-ltb (8 * e.offset) behind (omega (arith, place, early)))
    ∙ ap (λ n. damage_of what.End behind n) (sym place)

-- or else it is laid out too
pub laid_more : {entries rest more : List Entry} {index : Index} {bytes : List ℕ} {end behind at long : ℕ} {next_index : Index} {next_bytes : List ℕ} {next : ℕ} (e : Entry) → rest ≡ e ∷ more
    → at ≡ 8 * e.offset → long ≡ length_by e → behind ≤ at → next_index ≡ insert index e.id (entry_moved end e) → next_bytes ≡ bytes ++ entry_bytes (entry_moved end e) → next ≡ end + long
    → HasLaid entries rest index bytes end behind → HasLaid entries more next_index next_bytes next (at + long)
unfolding overlap moved_entries moved_end with_all
laid_more {entries} {rest} {more} {index} {bytes} {end} {behind} {at} {long} {next_index} {next_bytes} {next} e is place size late in_index in_bytes ends so_far =
    let next_is : next ≡ end + length_by e = ends ∙ ap (λ n. end + n) size in
    let behind_is : at + long ≡ entry_end e = (λ i. place i + size i) in
    record {
      apart =
          ap (λ n. overlap n more) behind_is
          ∙ sym (ap (λ b. cond b (damage_of what.End behind (8 * e.offset)) (overlap (entry_end e) more)) (le-ltb (8 * e.offset) behind (omega (arith, place, late))))
          ∙ ap (overlap behind) (sym is) ∙ so_far.apart;
      in_index = (λ i. with_all (in_index i) (moved_entries (next_is i) more)) ∙ ap (λ es. with_all index (moved_entries end es)) (sym is) ∙ so_far.in_index;
      in_bytes =
          (λ i. in_bytes i ++ index_bytes (moved_entries (next_is i) more)) ∙ append_assoc bytes (entry_bytes (entry_moved end e)) (index_bytes (moved_entries (end + length_by e) more))
          ∙ ap (λ es. bytes ++ index_bytes (moved_entries end es)) (sym is) ∙ so_far.in_bytes;
      ends = ap (λ n. moved_end n more) next_is ∙ ap (moved_end end) (sym is) ∙ so_far.ends;
      within = omega (arith, so_far.within, late, ends);
    }

-- all are
module _ {entries rest : List Entry} {index : Index} {bytes : List ℕ} {end behind : ℕ} (is : rest ≡ []) (so_far : HasLaid entries rest index bytes end behind) where
  pub laid_index : index ≡ with_all empty (moved_entries 8 entries)
  unfolding moved_entries with_all
  laid_index = ap (λ es. with_all index (moved_entries end es)) (sym is) ∙ so_far.in_index

  pub laid_bytes : bytes ≡ index_bytes (moved_entries 8 entries)
  unfolding moved_entries
  laid_bytes = sym (append-nil bytes) ∙ ap (λ es. bytes ++ index_bytes (moved_entries end es)) (sym is) ∙ so_far.in_bytes

  pub laid_end : end ≡ moved_end 8 entries
  unfolding moved_end
  laid_end = ap (moved_end end) (sym is) ∙ so_far.ends

  pub laid_apart : overlap 8 entries ≡ None
  unfolding overlap
  laid_apart = sym so_far.apart ∙ ap (overlap behind) is

-- what is told of one that begins too early
pub overlap_is_told : {damage : Option Damage} {end at : ℕ} (fault : GetFault) → fault ≡ get_fault.Damaged what.End end at → damage ≡ damage_of what.End end at → at < end → Tells damage fault × HasDifference fault
overlap_is_told {damage} {end} {at} fault is first early = subst (λ f. Tells damage f × HasDifference f) (sym is) (first, (λ same. omega (arith, same, early)))

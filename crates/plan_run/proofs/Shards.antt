-- Shards that are read while a plan runs.
use Rattle.std.proofs.Common.{◌≡◌, inl, ℕ, zero, suc, ◌+◌, ◌<◌, ◌≤◌, true, false, List, [], ◌∷◌, length, get_or, take, drop, Option, Some, None, is_some, Result, Ok, Err, refl, sym, ◌∙◌, ap, subst, arith}
use Rattle.std.specs.Prelude.{not, IsSome, OnOk, option_map}
use Rattle.std.specs.List.{AllByRecursion, range_with_len}
use Rattle.std.proofs.lemmas.Bool.{false≢true}
use Rattle.std.proofs.lemmas.List.{ext_get_or, get_or-take, get_or-drop, length-take, length-drop}
use Rattle.std.proofs.lemmas.List.FromFn.{length-range_with_len}
use Rattle.std.proofs.lemmas.List.Filters.{length-filter_both}
use Rattle.site_model.specs.Disk.{File, Files, bytes_of}
use Rattle.site_model.specs.Disk as disk
use Rattle.world_model.specs.World.{Volume}
use Rattle.world_model.specs.Ratios.{data_count, parity_count, counts-sixteen}
use Rattle.rs_code.specs.Codeword.{IsCodeword}
use Rattle.file_names.specs.declared.Kind.TheVariants.{Shard}
use Rattle.file_names.specs.Names.{place_of}
use Rattle.stripe_layout.specs.declared.Info.{Info}
use Rattle.stripe_layout.specs.Stripes.{column, shard_length, shards_in_all}
use Rattle.shard_table.specs.Table.{Row, Table, row_of}
use Rattle.image_meaning.specs.Laws.Options.{none_some, some_is}
use Rattle.image_meaning.specs.Laws.Points.{nth, column_value}
use Rattle.image_meaning.specs.HeldParts.{held_made}
use Rattle.image_meaning.specs.Share.{Share, finals, share_of}
use Rattle.degraded_read.specs.Gathering.{stands_in}
use Rattle.degraded_read.specs.Reading.{AreOneCode, GivesPart, HasPlaces, IsPart, shards_standing}
use Rattle.plan_steps.specs.Kept.{Forms, IsKeptCoded}
use Rattle.plan_steps.specs.AsTold.{StandsAsTold}
use Rattle.plan_steps.specs.Fitting.{AreStates}
use Rattle.plan_steps.specs.Laws.AsTold.{told_places}
use Rattle.plan_steps.specs.Laws.Legal.{some_at}
use Rattle.plan_steps.specs.Laws.Move.{place_within}
use Rattle.plan_steps.specs.Progressing.{Running, FitsProgress}
use Rattle.plan_run.specs.Copying.{IsShardPart, AreCoded, GivesShardPart}
use Rattle.plan_run.specs.Places.{HasTable}

pub on_ok : {A E : Type 0} {P Q : Type 0} (r : Result A E) → (P → Q) → OnOk r P → OnOk r Q
on_ok (Ok x) f p = f p
on_ok (Err e) f p = tt

-- ---- how many are read

pub few_standing : (info : Info) (row : Row) → shards_standing info row ≤ 16
few_standing info row = omega (
  arith,
  length-filter_both (stands_in row) (λ i. not (stands_in row i)) (λ i. refl) (range_with_len 0 (shards_in_all info.geometry)),
  length-range_with_len 0 (shards_in_all info.geometry),
  counts-sixteen info.geometry.ratio,
)

-- ---- where they stand

some_file : (o : Option File) → is_some (disk.standing o) ≡ true → IsSome o
some_file None e = absurd (false≢true e)
some_file (Some file) e = refl

long_file : (o : Option File) (n : ℕ) → option_map length (disk.standing o) ≡ Some n → length (bytes_of o) ≡ n
long_file None n e = absurd (none_some e)
long_file (Some file) n e = some_is (length file.bytes) n e

pub placed : (r : Running) (servers : ℕ) (table : Table) (files : Files) → AreStates r.states → HasTable r servers table → StandsAsTold r.plan r.states (share_of files r.plan.volume)
    → HasPlaces files r.plan.volume r.plan.info (row_of table r.plan.volume)
placed r servers table files are has told i s place =
    let row : Row = row_of table r.plan.volume in
    let there = told_places r.plan r.states row (share_of files r.plan.volume) are has.fits told i s (omega (arith, place_within row i s place, has.long)) place in record {
      server = there.0.0;
      stands = some_file (files (place_of r.plan.volume s (Shard i) false)) there.0.1;
      long = long_file (files (place_of r.plan.volume s (Shard i) false)) (shard_length r.plan.info.geometry r.plan.info.dat_size) there.1;
    }

-- ---- what they give

each_at : (P : List ℕ → Type 0) (xs : List (List ℕ)) (i : ℕ) → i < length xs → AllByRecursion P xs → P (nth xs i)
each_at P [] i short all = absurd (omega (arith, short))
each_at P (x ∷ xs) zero short all = all.0
each_at P (x ∷ xs) (suc i) short all = each_at P xs i (omega (arith, short)) all.1

module _ (r : Running) (files : Files) (row : Row) (none : Type 0) (shard at : ℕ) (out : List ℕ) (short : shard < shards_in_all r.plan.info.geometry)
    (range : at + length out ≤ shard_length r.plan.info.geometry r.plan.info.dat_size) (gives : GivesPart files r.plan.volume r.plan.info row none shard at out) where
  abbrev now : Share
  now = share_of files r.plan.volume

  module _ (w : Volume) (f : Forms) (places : Row) (start : Share) (fits : FitsProgress w f r places start now) (kept : IsKeptCoded f.parts (finals now)) where
    same : f.parts.info ≡ r.plan.info
    same = fits.begins.tells.info

    size : length f.parts.dat ≡ f.parts.info.dat_size
    size = fits.forms.parts.size

    columns : (p : ℕ) → p < shard_length f.parts.info.geometry f.parts.info.dat_size → IsCodeword (data_count f.parts.info.geometry.ratio) (parity_count f.parts.info.geometry.ratio) (column f.parts.shards p)
    columns p h = fits.forms.parts.striped.columns p (subst (λ n. p < shard_length f.parts.info.geometry n) (sym size) h)

    code : AreOneCode f.parts.info.geometry.ratio (finals now) (shard_length f.parts.info.geometry f.parts.info.dat_size)
    code = record {
      shards = f.parts.shards;
      stand = (held_made f.parts (finals now) kept.holds).stand;
      columns = columns;
    }

    is_part : IsPart f.parts.info.geometry.ratio (finals now) shard at out
    is_part = (subst (λ (info : Info). GivesPart files r.plan.volume info row none shard at out) (sym same) gives) (inl code)

    below : shard < shards_in_all f.parts.info.geometry
    below = subst (λ (info : Info). shard < shards_in_all info.geometry) (sym same) short

    listed : shard < length f.parts.shards
    listed = omega (arith, below, fits.forms.parts.striped.count)

    abbrev whole : List ℕ
    whole = nth f.parts.shards shard

    long : length whole ≡ shard_length f.parts.info.geometry f.parts.info.dat_size
    long = each_at (λ s. length s ≡ shard_length f.parts.info.geometry (length f.parts.dat)) f.parts.shards shard listed fits.forms.parts.striped.lengths ∙ ap (shard_length f.parts.info.geometry) size

    within : at + length out ≤ length whole
    within = omega (arith, long, range, ap (λ (info : Info). shard_length info.geometry info.dat_size) same)

    front : length out ≡ length (take (length out) (drop at whole))
    front = omega (arith, length-take (length out) (drop at whole), length-drop at whole, within)

    each : (i : ℕ) → i < length out → get_or out i 0 ≡ get_or (take (length out) (drop at whole)) i 0
    each i h =
        is_part i h
        ∙ column_value f.parts.info.geometry.ratio (finals now) f.parts.shards (at + i) shard (held_made f.parts (finals now) kept.holds).stand kept.form.enough
        (columns (at + i) (omega (arith, h, within, long))) below
        ∙ sym (get_or-take (length out) (drop at whole) i 0 h ∙ get_or-drop at whole i 0)

    pub part_is : IsShardPart f.parts shard at out
    part_is = record {
      whole = whole;
      there = some_at f.parts.shards shard listed;
      part = ext_get_or 0 out (take (length out) (drop at whole)) front each;
      within = within;
    }

  pub gives_part : AreCoded r files → GivesShardPart r files shard at out
  gives_part coded w f places start fits = part_is w f places start fits (coded w f places start fits)

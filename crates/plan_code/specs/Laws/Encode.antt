-- The plan of an encode begins on the files of a plain volume.
use Rattle.std.proofs.Common.{◌≡◌, ℕ, ◌*◌, ◌<◌, ◌≤◌, true, List, [], length, Option, Some, None, IsTrue, refl, sym, ◌∙◌, ap, subst, arith, flat_map}
use Rattle.std.specs.Prelude.{nat_eq}
use Rattle.std.specs.List.{IsDistinct, AllByRecursion}
use Rattle.world_model.specs.Ratios.{data_count, counts-sixteen}
use Rattle.world_model.specs.declared.types.Ratio.{Ratio}
use Rattle.world_model.specs.declared.types.Ratio.TheVariants.{ThreeTwo, SixThree, TenFour, TwelveFour}
use Rattle.file_names.specs.declared.Kind.TheVariants.{Shard}
use Rattle.rs_code.specs.Codeword.{AreBytes}
use Rattle.volume_forms.specs.Forms.{has_super, entries, entry_bytes}
use Rattle.volume_forms.specs.Kept.{entry_end}
use Rattle.stripe_layout.specs.declared.Info.{Info}
use Rattle.stripe_layout.specs.Stripes.{IsStriped}
use Rattle.stripe_layout.specs.Laws.Info.{IsInRange}
use Rattle.stripe_layout.specs.Laws.Striping.{striped_shards}
use Rattle.vif_info.specs.Laws.Text.{text_reads_back}
use Rattle.shard_table.specs.Table.{Row, IsRow, place_in}
use Rattle.needle_record.specs.Records.{IsWholeDat, records, live, fold_records}
use Rattle.image_meaning.specs.Files.{VolumeFiles}
use Rattle.image_meaning.specs.Plain.{IsExact}
use Rattle.image_meaning.specs.Laws.Options.{none_some}
use Rattle.image_meaning.specs.Laws.Plain.{IsAlone, alone_means, exact_kept_records}
use Rattle.image_meaning.specs.Parts.{Parts, AreSoundParts}
use Rattle.plan_steps.specs.declared.plan.Plan.{Plan}
use Rattle.plan_steps.specs.Planned.{is_encode}
use Rattle.plan_steps.specs.Ending.{HasNoPlaces}
use Rattle.plan_steps.specs.Laws.Forms.{encode_forms}
use Rattle.plan_steps.specs.Laws.Found.{encode_finds}
use Rattle.plan_steps.specs.Laws.Move.{place_within}
use Rattle.plan_steps.specs.Laws.Begin.{NamesFound, encode_begins}
use Rattle.plan_code.specs.Made.{IsEncodeOf}
use Rattle.plan_code.specs.Started.{Begins}
use Rattle.plan_code.specs.Laws.Live.{live_read, live_sorted, live_within}

some_row : (r : Ratio) (small : ℕ) → 0 < small → 0 < data_count r * small
some_row ThreeTwo small h = omega (arith, h)
some_row SixThree small h = omega (arith, h)
some_row TenFour small h = omega (arith, h)
some_row TwelveFour small h = omega (arith, h)

module _ (text : Info) (dat : List ℕ) (range : IsInRange text) (all : AreBytes dat) (whole : IsWholeDat dat) (super : IsTrue (has_super dat)) (size : text.dat_size ≡ length dat) where
  shards_of : (shards : List (List ℕ)) × IsStriped text.geometry dat shards
  shards_of = striped_shards text.geometry dat (some_row text.geometry.ratio text.geometry.small range.geometry.some_small) all

  -- what an encode of the data file makes
  abbrev parts : Parts
  parts = record { info = text; dat = dat; index = flat_map entry_bytes (live (records dat)); shards = shards_of.0; deleted = [] }

  none_twice : IsDistinct nat_eq []
  unfolding IsDistinct
  none_twice = tt

  parts_sound : AreSoundParts parts
  parts_sound = record {
    size = sym size;
    striped = shards_of.1;
    super = super;
    to_end = whole.to_end;
    live_entries = live_read dat all whole.super;
    sorted = live_sorted dat all whole.super;
    ends = subst (λ n. AllByRecursion (λ e. entry_end e ≤ n) (entries (flat_map entry_bytes (live (records dat))))) (sym size) (live_within dat all whole.super);
    distinct = none_twice;
    known = tt;
    room = omega (arith, range.most);
  }

-- The table names no shard, and the plan finds none.
pub encode_names : (servers : ℕ) (row : Row) (plan : Plan) → is_encode plan.command ≡ true → IsRow servers row → HasNoPlaces row → NamesFound plan row
encode_names servers row plan encode on none = record {
  named = λ i server h place. absurd (none_some (sym (none i (omega (arith, h, counts-sixteen plan.info.geometry.ratio))) ∙ place));
  missing = λ i h place server. encode_finds plan server (Shard i) encode;
  beyond = λ i h. nowhere i (place_in row i) refl;
}
  where
    nowhere : (i : ℕ) (o : Option ℕ) → place_in row i ≡ o → place_in row i ≡ None
    nowhere i None e = e
    nowhere i (Some s) e = none i (omega (arith, place_within row i s e, on.shards))

-- A plain volume with its two files at the home and no other, the data file bytes, begins the encode that is made of its
-- length and its live entries.
pub encode_starts : (servers v home : ℕ) (text : Info) (plan : Plan) (start : VolumeFiles) (dat idx : List ℕ)
    → IsEncodeOf servers v home text (live (records dat)) plan → IsInRange text → text.dat_size ≡ length dat
    → IsAlone start home dat idx → IsExact dat idx (records dat) → IsTrue (has_super dat) → AreBytes dat → Begins plan start
encode_starts servers v home text plan start dat idx is range size alone exact super all =
    let t = parts text dat range all exact.whole super size in
    record {
      w = fold_records (records dat);
      f = record { changes = true; kept = records dat; parts = t };
      means = alone_means start start home dat idx alone ∙ ap (λ ps. Some (fold_records ps)) (exact_kept_records dat idx (records dat) exact);
      forms = encode_forms t (parts_sound text dat range all exact.whole super size) refl;
      begins = encode_begins t plan start idx (ap is_encode is.command) is.makes.deleted (sym is.info) refl (ap (flat_map entry_bytes) (sym is.entries))
          (record { text = text_reads_back text range; ids = tt })
          (subst (λ at. IsAlone start at dat idx) (sym is.home) alone) exact super;
    }

-- At its first progress a plan follows the files on which it begins. For the store with jobs, to come.
use Rattle.std.proofs.Common.{◌≡◌, ℕ, ◌^◌, ◌<◌, List, length, IsTrue, sym, ap, subst}
use Rattle.std.specs.List.{AllByRecursion}
use Rattle.world_model.specs.declared.types.Command.{Command}
use Rattle.rs_code.specs.Codeword.{AreBytes}
use Rattle.volume_forms.specs.Forms.{has_super}
use Rattle.needle_record.specs.Records.{records, live}
use Rattle.stripe_layout.specs.declared.Info.{Info}
use Rattle.stripe_layout.specs.Laws.Info.{IsInRange}
use Rattle.shard_table.specs.Table.{Row, IsRow}
use Rattle.image_meaning.specs.Meaning.{max_volumes}
use Rattle.image_meaning.specs.Plain.{IsExact}
use Rattle.image_meaning.specs.Laws.Plain.{IsAlone}
use Rattle.image_meaning.specs.Ends.{HasNoFiles}
use Rattle.image_meaning.specs.Share.{Share, finals, temps}
use Rattle.plan_steps.specs.declared.plan.Plan.{Plan}
use Rattle.plan_steps.specs.declared.plan.Progress.{Progress}
use Rattle.plan_steps.specs.Planned.{is_encode}
use Rattle.plan_steps.specs.Fitting.{AreStates}
use Rattle.plan_steps.specs.Ending.{HasNoPlaces}
use Rattle.plan_steps.specs.Lists.{list_of}
use Rattle.plan_steps.specs.Plans.{IsPlanBy, IsPlan}
use Rattle.plan_steps.specs.Progressing.{running, Follows}
use Rattle.plan_steps.specs.Laws.Begin.{NamesFound, begin_fits}
use Rattle.plan_steps.specs.Laws.Beginning.{first_initial, first_listed}
use Rattle.plan_code.specs.Made.{IsEncodeOf, IsDecodeOf, StandEnough}
use Rattle.plan_code.specs.Started.{StandsCoded, Begins, IsFirst, AreNamed}
use Rattle.plan_code.specs.Laws.Once.{Once, encode_once, decode_once, first_apart}
use Rattle.plan_code.specs.Laws.Encode.{encode_names, encode_starts}
use Rattle.plan_code.specs.Laws.Coded.{coded_names}
use Rattle.plan_code.specs.Laws.Decode.{decode_starts}

pub first_follows : (plan : Plan) (progress : Progress) (row : Row) (start : Share) → IsFirst plan progress → Once (list_of plan) → AreNamed plan → plan.volume < max_volumes → NamesFound plan row → HasNoFiles (temps start)
    → Begins plan (finals start) → Follows (running plan progress) row start start
first_follows plan progress row start is once named below names no_temps b =
    let apart : AreStates progress.files.items = subst AreStates (sym is.files) (first_apart plan once named) in
    record {
      w = b.w;
      f = b.f;
      fits = begin_fits (running plan progress) apart (first_initial plan progress is.files is.place) b.w b.f row start below b.forms b.begins (first_listed plan progress.files.items is.files) names no_temps;
    }

module _ (servers v : ℕ) (text : Info) (row : Row) (plan : Plan) (progress : Progress) (start : Share) (planned : IsPlan plan servers) (on : IsRow servers row) (range : IsInRange text)
    (named : AreNamed plan) (first : IsFirst plan progress) (below : v < max_volumes) (no_temps : HasNoFiles (temps start)) where
  -- An encode follows the two files of a plain volume at its home, where the table has no shard of it.
  pub encode_follows : (home : ℕ) (dat idx : List ℕ) → IsEncodeOf servers v home text (live (records dat)) plan → HasNoPlaces row → text.dat_size ≡ length dat
      → IsAlone (finals start) home dat idx → IsExact dat idx (records dat) → IsTrue (has_super dat) → AreBytes dat → Follows (running plan progress) row start start
  encode_follows home dat idx is none size alone exact super all =
      first_follows plan progress row start first (encode_once plan servers is.makes text.geometry.ratio is.command) named (subst (λ n. n < max_volumes) (sym is.volume) below)
      (encode_names servers row plan (ap is_encode is.command) on none) no_temps (encode_starts servers v home text plan (finals start) dat idx is range size alone exact super all)

  -- A decode follows a tidy and sound coded volume, where the table has its shards.
  pub decode_follows : (listed : ℕ) (ids : List ℕ) → IsDecodeOf v text listed ids row plan → StandEnough text.geometry row → AllByRecursion (λ id. id < 2 ^ 64) ids
      → StandsCoded text ids listed row (finals start) → Follows (running plan progress) row start start
  decode_follows listed ids is stand fits stood =
      first_follows plan progress row start first (decode_once plan servers (subst (λ (c : Command). IsPlanBy servers plan c) is.command planned.made) is.command) named
      (subst (λ n. n < max_volumes) (sym is.coded.volume) below)
      (coded_names servers v listed text ids row plan (finals start) is.coded (ap is_encode is.command) on planned.few_servers stand) no_temps
      (decode_starts servers v listed text ids row plan (finals start) is on planned.few_servers stand range fits stood)

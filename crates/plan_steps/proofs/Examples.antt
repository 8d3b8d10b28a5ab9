-- What the definitions of plans refuse and what they admit, by small examples.
use Rattle.std.proofs.Common.{◌≡◌, ◌≢◌, ◌⊎◌, inl, inr, ℕ, ◌+◌, ◌%◌, ◌<◌, true, false, List, [], ◌∷◌, ◌++◌, length, map, Option, Some, None, is_some, IsTrue, refl, sym, ◌∙◌, ap, subst, arith, length-append}
use Rattle.std.specs.Prelude.{◌==◌, filter, flat_map, if◌then◌else◌, option_map}
use Rattle.std.specs.List.{list_any, range_with_len}
use Rattle.std.proofs.lemmas.Bool.{ne_eqb}
use Rattle.image_meaning.specs.Laws.Options.{some_is}
use mathlib.Core.Bool.{true≢false}
use Rattle.site_model.specs.Disk.{File, IsFirm, Disk}
use Rattle.site_model.specs.Disk as disk
use Rattle.world_model.specs.World.{Volume}
use Rattle.world_model.specs.declared.types.Command.{Command}
use Rattle.world_model.specs.declared.types.Command.TheVariants.{Encode, Rebuild, Balance, Decode}
use Rattle.world_model.specs.declared.types.Ratio.TheVariants.{TenFour}
use Rattle.file_names.specs.declared.Kind.{Kind}
use Rattle.file_names.specs.declared.Kind.TheVariants.{Dat, Idx, Cpx, Shard, Ecx, Vif}
use Rattle.file_names.specs.Names.{max_shards}
use Rattle.volume_forms.specs.Forms.{entry_bytes, has_super}
use Rattle.needle_record.specs.Records.{records}
use Rattle.shard_table.specs.Table.{Row}
use Rattle.image_meaning.specs.Files.{VolumeFiles, all_servers}
use Rattle.site_model.specs.Counts.{max_servers}
use Rattle.image_meaning.specs.Plain.{IsExact}
use Rattle.image_meaning.specs.Laws.Plain.{IsAlone}
use Rattle.image_meaning.specs.Sound.{Stands}
use Rattle.image_meaning.specs.Ends.{HasNoFiles}
use Rattle.image_meaning.specs.Meaning.{max_volumes}
use Rattle.image_meaning.specs.Parts.{Parts}
use Rattle.image_meaning.specs.Share.{Share, share_of, finals, temps, IsFirmShare}
use Rattle.plan_steps.specs.declared.plan.Plan.{Plan}
use Rattle.plan_steps.specs.Kept.{Forms, AreForms, HasAForm}
use Rattle.plan_steps.specs.Laws.Kept.{kept_none_made}
use Rattle.plan_steps.specs.Planned.{is_encode}
use Rattle.plan_steps.specs.Fitting.{AreStates}
use Rattle.plan_steps.specs.Legal.{AreReadBack, BeginsPlan}
use Rattle.plan_steps.specs.Laws.Begin.{IsInitial, NamesFound, begin_fits, encode_begins}
use Rattle.plan_steps.specs.Runs.{StepKeeps}
use Rattle.plan_steps.specs.Order.{Names, names_of}
use Rattle.plan_steps.specs.Lists.{is_target, shard_names, encode_names, list_by, list_of}
use Rattle.plan_steps.specs.Progressing.{Running, FitsProgress}

-- ---- one start, two data files

-- Two data files can have the same records, as where a byte of padding differs. A plan begins with the one that stands.
two_data_files : (f g : Forms) (plan : Plan) (start : VolumeFiles) → is_encode plan.command ≡ true → BeginsPlan f plan start → BeginsPlan g plan start → f.parts.dat ≢ g.parts.dat → ⊥
two_data_files f g plan start encode one other apart = apart (some_is f.parts.dat g.parts.dat (sym (one.tells.dat encode) ∙ other.tells.dat encode))

-- and with one index, that of its entries
one_index : (f g : Forms) (plan : Plan) (start : VolumeFiles) → is_encode plan.command ≡ true → BeginsPlan f plan start → BeginsPlan g plan start → f.parts.index ≡ g.parts.index
one_index f g plan start encode one other = one.tells.index encode ∙ sym (other.tells.index encode)

-- ---- an empty list

too_long : {A : Type 0} (a b c : List A) (x : A) (xs : List A) → [] ≡ a ++ (b ++ (c ++ x ∷ xs)) → ⊥
too_long a b c x xs e = absurd (omega (arith, ap length e, length-append a (b ++ (c ++ x ∷ xs)), length-append b (c ++ x ∷ xs), length-append c (x ∷ xs)))

-- An encode and a decode have files to write and to remove, so with an empty list neither has come anywhere.
empty_list : (w : Volume) (f : Forms) (plan : Plan) (place : ℕ) (row : Row) (start now : Share) → (is_encode plan.command ≡ true) ⊎ (plan.command ≡ Decode)
    → FitsProgress w f (record { plan = plan; states = []; place = place }) row start now → ⊥
empty_list w f plan place row start now either fits = by_command plan.command either (fits.way.listed)
  where
    by_command : (c : Command) → (is_encode c ≡ true) ⊎ (c ≡ Decode) → [] ≡ list_by plan c → ⊥
    by_command (Encode ratio) e listed = too_long (map (λ s. (s, Vif)) (filter (is_target plan) all_servers)) (map (λ s. (s, Ecx)) (filter (is_target plan) all_servers)) (shard_names plan.targets.items) (plan.home, Idx) ((plan.home, Dat) ∷ []) listed
    by_command Rebuild (inl e) listed = true≢false (sym e)
    by_command Rebuild (inr e) listed = cc
    by_command Balance (inl e) listed = true≢false (sym e)
    by_command Balance (inr e) listed = cc
    by_command Decode e listed = absurd (omega (arith, ap length listed))

-- ---- a server that no site has

-- this file more
abbrev with_file : ℕ → Kind → List ℕ → VolumeFiles → VolumeFiles
with_file server kind bytes files s k = if s == server then Some bytes else files s k

elsewhere : (server : ℕ) (kind : Kind) (bytes : List ℕ) (files : VolumeFiles) (s : ℕ) (k : Kind) → s < server → with_file server kind bytes files s k ≡ files s k
elsewhere server kind bytes files s k h = ap (λ b. if b then Some bytes else files s k) (ne_eqb s server (λ e. omega (arith, h, e)))

-- A file at server 64 keeps no encode from beginning.
beyond_begins : (t : Parts) (plan : Plan) (start : VolumeFiles) (idx bytes : List ℕ) (kind : Kind) → is_encode plan.command ≡ true → plan.deleted.items ≡ [] → t.info ≡ plan.info → t.deleted ≡ [] → t.index ≡ flat_map entry_bytes plan.entries.items
    → AreReadBack t → IsAlone start plan.home t.dat idx → IsExact t.dat idx (records t.dat) → IsTrue (has_super t.dat)
    → BeginsPlan (record { changes = true; kept = records t.dat; parts = t }) plan (with_file max_servers kind bytes start)
beyond_begins t plan start idx bytes kind encode none info ids index read_back alone exact super =
    encode_begins t plan (with_file max_servers kind bytes start) idx encode none info ids index read_back (record {
      below = alone.below;
      has_dat = elsewhere max_servers kind bytes start plan.home Dat alone.below ∙ alone.has_dat;
      has_index = elsewhere max_servers kind bytes start plan.home Idx alone.below ∙ alone.has_index;
      alone = λ server k is st. alone.alone server k is (st.0, ap is_some (sym (elsewhere max_servers kind bytes start server k st.0)) ∙ st.1);
    }) exact super

-- ---- the last copy of a shard

-- A step that isn't a decode's, and takes the one copy of a shard, is refused, however many other shards stand.
last_copy : (plan : Plan) (f : Forms) (start : Share) (old new : Disk) (server i : ℕ) → (plan.command ≡ Decode → ⊥) → i < max_shards → StepKeeps plan f start old new
    → Stands (finals (share_of old.files plan.volume)) server (Shard i) → ((s : ℕ) → Stands (finals (share_of new.files plan.volume)) s (Shard i) → ⊥) → ⊥
last_copy plan f start old new server i no_decode h keeps stood gone = let still = keeps.copies no_decode server i h stood in gone still.0 still.1

-- ---- files that a stop may tear

-- nothing of these files is firm
abbrev pending : Share → Share
pending share server kind temp = option_map (λ (file : File). record file { firm = 0 }) (share server kind temp)

same_standing : (o : Option File) → disk.standing (option_map (λ (file : File). record file { firm = 0 }) o) ≡ disk.standing o
same_standing None = refl
same_standing (Some file) = refl

-- They aren't firm, unless they are empty.
not_firm : (share : Share) (server : ℕ) (kind : Kind) (file : File) → share server kind false ≡ Some file → 0 < length file.bytes → IsFirmShare (pending share) → ⊥
not_firm share server kind file e some firm = absurd (omega (arith, some, (subst (λ o. IsFirm (option_map (λ (file : File). record file { firm = 0 }) o)) e (firm server kind)).0))

-- And yet a plan begins with them: what has come so far asks for no firm file.
pending_begins : (r : Running) → AreStates r.states → IsInitial r → (w : Volume) (f : Forms) (row : Row) (start : Share) → r.plan.volume < max_volumes → AreForms w f → BeginsPlan f r.plan (finals start)
    → names_of r.states ≡ list_of r.plan → NamesFound r.plan row → HasNoFiles (temps start) → FitsProgress w f r row (pending start) (pending start)
pending_begins r apart initial w f row start below forms begins listed names no_temps =
    begin_fits r apart initial w f row (pending start) below forms
    (subst (BeginsPlan f r.plan) (λ i server kind. sym (same_standing (start server kind false)) i) begins) listed names
    (λ server kind h is. same_standing (start server kind true) ∙ no_temps server kind h is)

-- ---- an index that a vacuum made

-- With it no plan keeps the files: the named index would go, and an index still stand.
made_index : (f : Forms) (files : VolumeFiles) (server : ℕ) → HasAForm f files → Stands files server Cpx → ⊥
made_index f files server kept st = true≢false (sym st.1 ∙ ap is_some (kept_none_made f files kept server st.0))

-- ---- the list of an encode over four servers

abbrev targets : List (ℕ × ℕ)
targets = map (λ i. (i, i % 4)) (range_with_len 0 14)

abbrev listed : Names
listed =
    (0, Vif) ∷ (1, Vif) ∷ (2, Vif) ∷ (3, Vif) ∷ (0, Ecx) ∷ (1, Ecx) ∷ (2, Ecx) ∷ (3, Ecx)
    ∷ (0, Shard 0) ∷ (1, Shard 1) ∷ (2, Shard 2) ∷ (3, Shard 3) ∷ (0, Shard 4) ∷ (1, Shard 5) ∷ (2, Shard 6) ∷ (3, Shard 7)
    ∷ (0, Shard 8) ∷ (1, Shard 9) ∷ (2, Shard 10) ∷ (3, Shard 11) ∷ (0, Shard 12) ∷ (1, Shard 13) ∷ (2, Idx) ∷ (2, Dat) ∷ []

four_servers : (plan : Plan) → plan.command ≡ Encode TenFour → plan.targets.items ≡ targets → plan.home ≡ 2 → list_of plan ≡ listed
four_servers plan command are home =
    ap (list_by plan) command ∙ (λ i. encode_names (filter (λ s. list_any (λ p. p.1 == s) (are i)) all_servers) (are i) (home i))

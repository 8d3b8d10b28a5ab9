-- What the steps that move one file know of it.
use Rattle.std.proofs.Common.{◌≡◌, ◌⊎◌, inl, inr, ⊎_elim, ℕ, zero, suc, ◌+◌, ◌<◌, ◌≤◌, true, false, List, [], ◌∷◌, ◌++◌, length, map, get_or, Option, None, Some, refl, sym, ◌∙◌, ap, subst, arith, length-append}
use Rattle.std.specs.Prelude.{IsSome, codes, decimal, slice_get}
use Rattle.std.specs.String.{string_bytes}
use Rattle.std.proofs.lemmas.Bool.{false≢true}
use Rattle.std.proofs.lemmas.Fmt.{length-decimal-le}
use Rattle.std.proofs.lemmas.List.{length-map}
use Rattle.image_meaning.specs.Laws.Options.{none_some, some_is}
use Rattle.image_meaning.specs.Share.{share_of}
use Rattle.site_model.specs.Disk.{File, Files, size_of}
use Rattle.world_model.specs.Sizes.{max_dat}
use Rattle.world_model.specs.declared.types.Command.TheVariants.{Decode}
use Rattle.world_model.specs.declared.types.Ratio.{Ratio}
use Rattle.world_model.specs.declared.types.Ratio.TheVariants.{ThreeTwo, SixThree, TenFour, TwelveFour}
use Rattle.file_names.specs.declared.Kind.{Kind}
use Rattle.file_names.specs.declared.Kind.TheVariants.{Idx}
use Rattle.file_names.specs.Names.{place_of}
use Rattle.stripe_layout.specs.declared.Info.{Info}
use Rattle.stripe_layout.specs.Stripes.{GeometryInRange}
use Rattle.stripe_layout.specs.Information.{info_text, ratio_member}
use Rattle.shard_table.specs.Table.{Row}
use Rattle.plan_steps.specs.declared.plan.Stage.TheVariants.{Writing, Synced}
use Rattle.plan_steps.specs.declared.plan.FileState.{FileState}
use Rattle.plan_steps.specs.Fitting.{AreStates}
use Rattle.plan_steps.specs.Listed.{IsListed}
use Rattle.plan_steps.specs.Legal.{IsFound, IsNew, MayRegister, MayRemove}
use Rattle.plan_steps.specs.Order.{names_of, IsReached, WaitsToRegister}
use Rattle.plan_steps.specs.Laws.Order.{name_at}
use Rattle.plan_steps.specs.Lists.{list_of}
use Rattle.plan_steps.specs.Laws.List.{list_waits, turn_registers, turn_removes}
use Rattle.plan_steps.specs.Walk.{is_file, position_of}
use Rattle.plan_steps.specs.Laws.Walk.{place_cases, file_is, is_this}
use Rattle.plan_steps.specs.AsTold.{IsWithin, IsLong, IsWrittenBy, StandsAsTold}
use Rattle.plan_steps.specs.Laws.Within.{state_within}
use Rattle.plan_steps.specs.Progressing.{Running}
use Rattle.plan_run.specs.declared.names.FileNames.{FileNames}
use Rattle.plan_run.specs.Finishing.{IsNamedFile, TempStands}
use Rattle.plan_run.specs.Names.{name_for}
use Rattle.plan_run.specs.Stepping.{IsAtWork}
use Rattle.plan_run.proofs.Named.{named_file}

-- ---- a place in the list

pub listed_position : (states : List FileState) (server : ℕ) (kind : Kind) → IsListed states server kind → IsSome (position_of server kind states)
listed_position states server kind (j, s, at, a, b) = ⊎_elim
    (λ found. subst IsSome (sym found.2) refl)
    (λ none. absurd (false≢true (sym (none.1 j s at) ∙ is_this server kind s a b)))
    (place_cases (is_file server kind) states)

pub listed_once : (states : List FileState) (server : ℕ) (kind : Kind) (place : ℕ) → AreStates states → position_of server kind states ≡ Some place → (at : ℕ) (s : FileState) → slice_get states at ≡ Some s
    → s.server ≡ server → s.kind ≡ kind → place ≡ at
listed_once states server kind place are e at s there a b = ⊎_elim
    (λ found.
    let same : place ≡ found.0 = some_is place found.0 (sym e ∙ found.2) in
    let is = file_is server kind found.1 found.4 in
    same ∙ are.apart found.0 at found.1 s found.3 there (is.0 ∙ sym a) (is.1 ∙ sym b))
    (λ none. absurd (none_some (sym none.0 ∙ e)))
    (place_cases (is_file server kind) states)

pub get_short : {A : Type 0} (xs : List A) (k : ℕ) (x : A) → slice_get xs k ≡ Some x → k < length xs
get_short [] k x e = absurd (none_some e)
get_short (y ∷ ys) zero x e = omega arith
get_short (y ∷ ys) (suc k) x e = omega (arith, get_short ys k x e)

-- ---- the file there

module _ (r : Running) (servers : ℕ) (names : FileNames) (work : IsAtWork r servers names) (place k : ℕ) (s : FileState) (same : place ≡ k) (at_k : slice_get r.states k ≡ Some s) where
  pub here : slice_get r.states place ≡ Some s
  here = ap (slice_get r.states) same ∙ at_k

  listed : names_of r.states ≡ list_of r.plan
  listed = work.on_its_way.1.listed

  within : IsWithin r.plan servers s.server s.kind
  within = state_within r.plan servers work.of_plan r.states listed place s here

  named : slice_get (list_of r.plan) place ≡ Some (s.server, s.kind)
  named = ap (λ files. slice_get files place) (sym listed) ∙ name_at (λ (x : FileState). (x.server, x.kind)) r.states place s here

  pub temp_short : place < length names.temps.items
  temp_short = omega (arith, (named_file (map string_bytes names.temps.items) r.plan.volume true (list_of r.plan) place s.server s.kind work.named.temps_are named).0, length-map names.temps.items string_bytes)

  pub last_short : place < length names.lasts.items
  last_short = omega (arith, (named_file (map string_bytes names.lasts.items) r.plan.volume false (list_of r.plan) place s.server s.kind work.named.lasts_are named).0, length-map names.lasts.items string_bytes)

  pub server_short : s.server < servers
  server_short = within.0

  pub temp_is : (temp : List ℕ) → temp ≡ get_or (map string_bytes names.temps.items) place [] → temp ≡ name_for r.plan.volume true (s.server, s.kind)
  temp_is temp is_temp = is_temp ∙ (named_file (map string_bytes names.temps.items) r.plan.volume true (list_of r.plan) place s.server s.kind work.named.temps_are named).1

  pub is_named : (temp last : List ℕ) → temp ≡ get_or (map string_bytes names.temps.items) place [] → last ≡ get_or (map string_bytes names.lasts.items) place []
      → IsNamedFile r.plan.volume servers r.states place temp last
  is_named temp last is_temp is_last = record {
    file = s;
    at = here;
    server = within.0;
    temp = temp_is temp is_temp;
    final = is_last ∙ (named_file (map string_bytes names.lasts.items) r.plan.volume false (list_of r.plan) place s.server s.kind work.named.lasts_are named).1;
  }

  -- a new index is that of a decode
  pub decodes : IsNew r.plan s.server s.kind → s.kind ≡ Idx → r.plan.command ≡ Decode
  decodes new e = (subst (WaitsToRegister r.plan (list_of r.plan) place s.server) e (list_waits r.plan servers work.of_plan place s.server s.kind named new)).2

  -- a file whose turn has come may be finished
  turned : IsReached r.plan r.states k → IsReached r.plan r.states place
  turned turn = subst (IsReached r.plan r.states) (sym same) turn

  pub registers : IsReached r.plan r.states k → IsNew r.plan s.server s.kind → MayRegister r.plan r.states s.server s.kind
  registers turn new = turn_registers r.plan servers work.of_plan r.states work.on_its_way.1.apart listed place (turned turn) s here new

  pub removes : IsReached r.plan r.states k → IsFound r.plan s.server s.kind → (row : Row) → MayRemove r.plan r.states row s.server s.kind
  removes turn found row = turn_removes r.plan servers work.of_plan r.states work.on_its_way.1.apart listed place (turned turn) s here row found

  -- a file that is written stands as a temporary one
  pub temp_stands : (files : Files) → StandsAsTold r.plan r.states (share_of files r.plan.volume) → IsNew r.plan s.server s.kind → (s.stage ≡ Writing) ⊎ (s.stage ≡ Synced) → TempStands r place files
  temp_stands files told new stage u at_u =
      subst (λ (x : FileState). IsSome (files (place_of r.plan.volume x.server x.kind true))) (some_is s u (sym here ∙ at_u)) (by_stage stage)
    where
      size_some : (file : Option File) (n : ℕ) → size_of file ≡ Some n → IsSome file
      size_some None n e = absurd (none_some e)
      size_some (Some file) n e = refl

      by_stage : (s.stage ≡ Writing) ⊎ (s.stage ≡ Synced) → IsSome (files (place_of r.plan.volume s.server s.kind true))
      by_stage (inl e) =
          size_some (files (place_of r.plan.volume s.server s.kind true)) s.length
          (subst (λ x. IsWrittenBy r.plan x s.length s.kind (files (place_of r.plan.volume s.server s.kind false)) (files (place_of r.plan.volume s.server s.kind true))) e (told.written place s here new within.1))
      by_stage (inr e) =
          let long : IsLong r.plan s.kind (files (place_of r.plan.volume s.server s.kind true)) =
          subst (λ x. IsWrittenBy r.plan x s.length s.kind (files (place_of r.plan.volume s.server s.kind false)) (files (place_of r.plan.volume s.server s.kind true))) e (told.written place s here new within.1) in
          size_some (files (place_of r.plan.volume s.server s.kind true)) long.bytes long.there

-- ---- the text that is written

member_short : (ratio : Ratio) → length (ratio_member ratio) ≤ 20
member_short ThreeTwo = omega arith
member_short SixThree = omega arith
member_short TenFour = omega arith
member_short TwelveFour = omega arith

-- eight parts one behind the other
parts_long : (a b c d e f g h : List ℕ) → length (((((((a ++ b) ++ c) ++ d) ++ e) ++ f) ++ g) ++ h) ≡ length a + length b + length c + length d + length e + length f + length g + length h
parts_long a b c d e f g h = omega (
  arith,
  length-append ((((((a ++ b) ++ c) ++ d) ++ e) ++ f) ++ g) h,
  length-append (((((a ++ b) ++ c) ++ d) ++ e) ++ f) g,
  length-append ((((a ++ b) ++ c) ++ d) ++ e) f,
  length-append (((a ++ b) ++ c) ++ d) e,
  length-append ((a ++ b) ++ c) d,
  length-append (a ++ b) c,
  length-append a b,
)

pub text_short : (info : Info) → GeometryInRange info.geometry → info.dat_size ≤ max_dat → length (info_text info) ≤ 65536
text_short info range most =
    let size : length (decimal info.dat_size) ≤ 11 = length-decimal-le 11 info.dat_size (omega arith) (omega (arith, most)) (omega (arith, most)) in
    let large : length (decimal info.geometry.large) ≤ 10 = length-decimal-le 10 info.geometry.large (omega arith) (omega (arith, range.large)) (omega (arith, range.large)) in
    let small : length (decimal info.geometry.small) ≤ 10 = length-decimal-le 10 info.geometry.small (omega arith) (omega (arith, range.small, range.large)) (omega (arith, range.small, range.large)) in
    let parts : length (info_text info) ≡ 11 + length (decimal info.dat_size) + 9 + length (decimal info.geometry.large) + length (ratio_member info.geometry.ratio) + 9 + length (decimal info.geometry.small) + 13 =
    parts_long (codes "{\"datSize\":") (decimal info.dat_size) (codes ",\"large\":") (decimal info.geometry.large) (ratio_member info.geometry.ratio) (codes ",\"small\":") (decimal info.geometry.small) (codes ",\"version\":3}") in
    omega (arith, parts, size, large, small, member_short info.geometry.ratio)

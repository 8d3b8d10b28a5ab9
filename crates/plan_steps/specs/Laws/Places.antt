-- How the table goes on as a shard comes or goes: it is told a place of the shard by now, or that there is none.
-- For `run_step` of the running plans of `plan_run`, to come.
use Rattle.std.proofs.Common.{◌≡◌, ◌≢◌, ◌⊎◌, inl, inr, ℕ, ◌<◌, Bool, true, false, List, length, map, Option, Some, None, refl, sym, ◌∙◌, ap, subst, arith}
use Rattle.std.specs.Prelude.{if◌then◌else◌, slice_get, slice_set}
use Rattle.std.proofs.lemmas.Bool.{cases_eq, and_parts, false≢true}
use Rattle.std.proofs.lemmas.List.{get_or-set_same, get_or-set_other}
use Rattle.image_meaning.specs.Laws.Options.{some_is}
use Rattle.file_names.specs.declared.Kind.{Kind}
use Rattle.file_names.specs.declared.Kind.TheVariants.{Dat, Idx, Cpd, Cpx, Shard, Ecx, Ecj, Vif}
use Rattle.stripe_layout.specs.Information.{info_text}
use Rattle.stripe_layout.specs.Stripes.{shards_in_all}
use Rattle.shard_table.specs.Table.{Row, place_in}
use Rattle.plan_steps.specs.declared.plan.Plan.{Plan}
use Rattle.plan_steps.specs.declared.plan.Stage.{Stage}
use Rattle.plan_steps.specs.declared.plan.Stage.TheVariants.{Writing, Synced, Registered, Gone}
use Rattle.plan_steps.specs.declared.plan.FileState.{FileState}
use Rattle.plan_steps.specs.declared.step.Step.{Step}
use Rattle.plan_steps.specs.declared.step.Step.TheVariants.{PutInfo, WriteEntries, PutJournal, MakePiece, MendPiece, JoinPiece, JoinDeletes, CopyPiece, Sync, Register, Unregister, DropIndex, DropData}
use Rattle.plan_steps.specs.Fitting.{AreStates}
use Rattle.plan_steps.specs.Legal.{HasFile, FitsPlaces}
use Rattle.plan_steps.specs.Laws.Order.{name_at, named_at}
use Rattle.plan_steps.specs.Walk.{is_file}
use Rattle.plan_steps.specs.Laws.Walk.{file_is}
use Rattle.plan_steps.specs.Next.{is_behind}
use Rattle.plan_steps.specs.Legality.{goes_on, goes_on_behind}
use Rattle.plan_steps.specs.After.{piece_length, grown_by, at_stage, put_whole, appended, after, IsAfter}
use Rattle.plan_steps.specs.Progressing.{Running}
use Rattle.plan_steps.specs.Laws.Way.{file_on, file_before}
use Rattle.plan_steps.specs.Stepping.{IsWritten, IsDue, IsPlaceOf, row_told, LeavesShards}

module _ (plan : Plan) (states : List FileState) (j : ℕ) (s next : FileState) (at : slice_get states j ≡ Some s) (server : next.server ≡ s.server) (kind : next.kind ≡ s.kind) (row : Row) (fits : FitsPlaces plan states row) where
  abbrev moved : List FileState
  moved = slice_set states j next

  same_shard : (a b : ℕ) → ◌≡◌ {A = Kind} (Shard a) (Shard b) → a ≡ b
  same_shard a b e = cc

  -- files of other kinds stand where they stood
  module _ (k : ℕ) (other : s.kind ≢ Shard k) where
    still : (n : ℕ) → HasFile plan states n (Shard k) → HasFile plan moved n (Shard k)
    still n has = file_on plan states j s next at server kind n (Shard k) (λ stage a b. other b) has

    stood : (n : ℕ) → HasFile plan moved n (Shard k) → HasFile plan states n (Shard k)
    stood n has = file_before plan states j s next at server kind n (Shard k) (λ stage a b. other b) has

  -- a shard
  module _ (i : ℕ) (is : s.kind ≡ Shard i) (long : i < length row) (short : i < shards_in_all plan.info.geometry) (place : Option ℕ) (now : IsPlaceOf plan moved i place) where
    here : place_in (slice_set row i place) i ≡ place
    here = get_or-set_same row i place None long

    elsewhere : (k : ℕ) → k ≢ i → place_in (slice_set row i place) k ≡ place_in row k
    elsewhere k other = get_or-set_other row i k place None other

    not_this : (k : ℕ) → k ≢ i → s.kind ≢ Shard k
    not_this k other e = other (same_shard k i (sym e ∙ is))

    by_named : (k n : ℕ) → k < shards_in_all plan.info.geometry → place_in (slice_set row i place) k ≡ Some n → (k ≡ i) ⊎ (k ≢ i) → HasFile plan moved n (Shard k)
    by_named k n h e (inr other) = still k (not_this k other) n (fits.named k n h (sym (elsewhere k other) ∙ e))
    by_named k n h e (inl same) = subst (λ m. HasFile plan moved n (Shard m)) (sym same) (subst (IsPlaceOf plan moved i) (sym here ∙ ap (place_in (slice_set row i place)) (sym same) ∙ e) now)

    by_missing : (k n : ℕ) → k < shards_in_all plan.info.geometry → place_in (slice_set row i place) k ≡ None → HasFile plan moved n (Shard k) → (k ≡ i) ⊎ (k ≢ i) → ⊥
    by_missing k n h e has (inr other) = fits.missing k h (sym (elsewhere k other) ∙ e) n (stood k (not_this k other) n has)
    by_missing k n h e has (inl same) =
        subst (IsPlaceOf plan moved i) (sym here ∙ ap (place_in (slice_set row i place)) (sym same) ∙ e) now n (subst (λ m. HasFile plan moved n (Shard m)) same has)

    shard_places : FitsPlaces plan moved (slice_set row i place)
    shard_places = record {
      named = λ k n h e. by_named k n h e (cases_eq k i);
      missing = λ k h e n has. by_missing k n h e has (cases_eq k i);
      beyond = λ k h. elsewhere k (λ e. omega (arith, h, short, e)) ∙ fits.beyond k h;
    }

  -- any other file leaves the table as it is
  other_places : ((k : ℕ) → s.kind ≢ Shard k) → FitsPlaces plan moved row
  other_places other = record {
    named = λ k n h e. still k (other k) n (fits.named k n h e);
    missing = λ k h e n has. fits.missing k h e n (stood k (other k) n has);
    beyond = fits.beyond;
  }

  pub places_told : (c : Kind) → s.kind ≡ c → (place : Option ℕ) → ((i : ℕ) → c ≡ Shard i → (i < length row) × (i < shards_in_all plan.info.geometry) × IsPlaceOf plan moved i place) → FitsPlaces plan moved (row_told c place row)
  places_told Dat e place now = other_places (λ k is. let clash : ◌≡◌ {A = Kind} Dat (Shard k) = sym e ∙ is in cc)
  places_told Idx e place now = other_places (λ k is. let clash : ◌≡◌ {A = Kind} Idx (Shard k) = sym e ∙ is in cc)
  places_told Cpd e place now = other_places (λ k is. let clash : ◌≡◌ {A = Kind} Cpd (Shard k) = sym e ∙ is in cc)
  places_told Cpx e place now = other_places (λ k is. let clash : ◌≡◌ {A = Kind} Cpx (Shard k) = sym e ∙ is in cc)
  places_told (Shard i) e place now = let is = now i refl in shard_places i e is.0 is.1 place is.2
  places_told Ecx e place now = other_places (λ k is. let clash : ◌≡◌ {A = Kind} Ecx (Shard k) = sym e ∙ is in cc)
  places_told Ecj e place now = other_places (λ k is. let clash : ◌≡◌ {A = Kind} Ecj (Shard k) = sym e ∙ is in cc)
  places_told Vif e place now = other_places (λ k is. let clash : ◌≡◌ {A = Kind} Vif (Shard k) = sym e ∙ is in cc)

-- ---- steps that leave the shards

-- its name stays, and a shard is registered where it was
record IsSteady (t u : FileState) : Type 0 where
  server : u.server ≡ t.server
  kind : u.kind ≡ t.kind
  stays : (i : ℕ) → t.kind ≡ Shard i → t.stage ≡ Registered → u.stage ≡ Registered
  stood : (i : ℕ) → t.kind ≡ Shard i → u.stage ≡ Registered → t.stage ≡ Registered

steady_same : (t : FileState) → IsSteady t t
steady_same t = record { server = refl; kind = refl; stays = λ i e stage. stage; stood = λ i e stage. stage }

module _ (plan : Plan) (g : FileState → FileState) (states : List FileState) (steady : (k : ℕ) (t : FileState) → slice_get states k ≡ Some t → IsSteady t (g t)) where
  has_on : (n i : ℕ) → HasFile plan states n (Shard i) → HasFile plan (map g states) n (Shard i)
  has_on n i (inl (k, t, at, a, b, stage)) = let is = steady k t at in inl (k, g t, name_at g states k t at, is.server ∙ a, is.kind ∙ b, is.stays i b stage)
  has_on n i (inr (found, other)) = inr (
    found,
    λ k u at a b.
        let was = named_at g states k u at in
        let is = steady k was.0 was.1 in
        other k was.0 was.1 (sym is.server ∙ ap (λ (x : FileState). x.server) was.2 ∙ a) (sym is.kind ∙ ap (λ (x : FileState). x.kind) was.2 ∙ b),
  )

  has_back : (n i : ℕ) → HasFile plan (map g states) n (Shard i) → HasFile plan states n (Shard i)
  has_back n i (inl (k, u, at, a, b, stage)) =
      let was = named_at g states k u at in
      let is = steady k was.0 was.1 in
      let kind : was.0.kind ≡ Shard i = sym is.kind ∙ ap (λ (x : FileState). x.kind) was.2 ∙ b in
      inl (k, was.0, was.1, sym is.server ∙ ap (λ (x : FileState). x.server) was.2 ∙ a, kind, is.stood i kind (ap (λ (x : FileState). x.stage) was.2 ∙ stage))
  has_back n i (inr (found, other)) = inr (
    found,
    λ k t at a b. let is = steady k t at in other k (g t) (name_at g states k t at) (is.server ∙ a) (is.kind ∙ b),
  )

  still_places : (row : Row) → FitsPlaces plan states row → FitsPlaces plan (map g states) row
  still_places row fits = record {
    named = λ i n h place. has_on n i (fits.named i n h place);
    missing = λ i h place n has. fits.missing i h place n (has_back n i has);
    beyond = fits.beyond;
  }

module _ (r : Running) (are : AreStates r.states) (taken : ℕ) where
  steady_by : (t u : FileState) → u.server ≡ t.server → u.kind ≡ t.kind → u.stage ≢ Registered → t.stage ≢ Registered → IsSteady t u
  steady_by t u server kind is was = record { server = server; kind = kind; stays = λ i e stage. absurd (was stage); stood = λ i e stage. absurd (is stage) }

  not_registered : (stage : Stage) → is_behind stage ≡ true → stage ≢ Registered
  not_registered stage behind e = false≢true (ap is_behind (sym e) ∙ behind)

  appended_steady : (by : Step) (t : FileState) → IsSteady t (appended r.plan r.place taken by t)
  appended_steady by t = by_test (goes_on_behind r.plan r.place by t) refl
    where
      by_test : (b : Bool) → goes_on_behind r.plan r.place by t ≡ b → IsSteady t (if b then grown_by (piece_length r.plan taken t.length by) t else t)
      by_test true goes = steady_by t (grown_by (piece_length r.plan taken t.length by) t) refl refl (λ e. cc) (not_registered t.stage (and_parts (is_behind t.stage) (goes_on r.plan r.place by t) goes).0)
      by_test false idle = steady_same t

  -- a file of another kind
  other_steady : (server : ℕ) (c : Kind) → ((i : ℕ) → c ≢ Shard i) → (g : FileState → FileState) → ((t : FileState) → (g t).server ≡ t.server) → ((t : FileState) → (g t).kind ≡ t.kind) → (t : FileState)
      → IsSteady t (if is_file server c t then g t else t)
  other_steady server c other g servers kinds t = by_test (is_file server c t) refl
    where
      by_test : (b : Bool) → is_file server c t ≡ b → IsSteady t (if b then g t else t)
      by_test true here = let is = file_is server c t here in record {
        server = servers t;
        kind = kinds t;
        stays = λ i e stage. absurd (other i (sym is.1 ∙ e));
        stood = λ i e stage. absurd (other i (sym is.1 ∙ e));
      }
      by_test false idle = steady_same t

  sync_steady : (server : ℕ) (c : Kind) → IsWritten r server c → (k : ℕ) (t : FileState) → slice_get r.states k ≡ Some t → IsSteady t (if is_file server c t then at_stage Synced t else t)
  sync_steady server c due k t at = by_test (is_file server c t) refl
    where
      by_test : (b : Bool) → is_file server c t ≡ b → IsSteady t (if b then at_stage Synced t else t)
      by_test false idle = steady_same t
      by_test true here =
          let is = file_is server c t here in
          let one = are.apart k due.at t due.file at due.there (is.0 ∙ sym due.server_is) (is.1 ∙ sym due.kind_is) in
          let same : t ≡ due.file = some_is t due.file (sym at ∙ ap (slice_get r.states) one ∙ due.there) in
          let stage : t.stage ≡ Writing = ap (λ (x : FileState). x.stage) same ∙ due.stage_is in
          steady_by t (at_stage Synced t) refl refl (λ e. cc) (not_registered t.stage (ap is_behind stage))

  steady : (by : Step) → IsDue r by → LeavesShards by → (k : ℕ) (t : FileState) → slice_get r.states k ≡ Some t → IsSteady t (after r.plan r.place taken by t)
  steady (PutInfo server) due leaves k t at = other_steady server Vif (λ i e. cc) (put_whole (length (info_text r.plan.info))) (λ u. refl) (λ u. refl) t
  steady (WriteEntries place) due leaves k t at = appended_steady (WriteEntries place) t
  steady (PutJournal server place) due leaves k t at = appended_steady (PutJournal server place) t
  steady (MakePiece row place) due leaves k t at = appended_steady (MakePiece row place) t
  steady (MendPiece place) due leaves k t at = appended_steady (MendPiece place) t
  steady (JoinPiece row block place) due leaves k t at = appended_steady (JoinPiece row block place) t
  steady (JoinDeletes place) due leaves k t at = appended_steady (JoinDeletes place) t
  steady (CopyPiece from to kind place) due leaves k t at = appended_steady (CopyPiece from to kind place) t
  steady (Sync server kind) due leaves k t at = sync_steady server kind due k t at
  steady (Register server kind) due leaves k t at = absurd leaves
  steady (Unregister server kind) due leaves k t at = absurd leaves
  steady (DropIndex server) due leaves k t at = other_steady server Idx (λ i e. cc) (at_stage Gone) (λ u. refl) (λ u. refl) t
  steady (DropData server) due leaves k t at = other_steady server Dat (λ i e. cc) (at_stage Gone) (λ u. refl) (λ u. refl) t

-- Such a step leaves the table as it is.
pub places_still : (r : Running) (by : Step) (onward : List FileState) (next : ℕ) → AreStates r.states → IsDue r by → LeavesShards by → IsAfter r.plan by r.states r.place onward next → (row : Row) → FitsPlaces r.plan r.states row
    → FitsPlaces r.plan onward row
places_still r by onward next are due leaves stepped row fits =
    subst (λ states. FitsPlaces r.plan states row) (sym stepped.files)
    (still_places r.plan (after r.plan r.place stepped.taken by) r.states (steady r are stepped.taken by due leaves) row fits)

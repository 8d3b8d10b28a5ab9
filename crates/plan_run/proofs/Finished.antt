-- The calls of a site on the file at a place of the list, as calls on the places of that file; and what each then keeps, and
-- how far the plan has come.
use Rattle.std.proofs.Common.{◌≡◌, ◌≢◌, inl, inr, ⊎_elim, ℕ, ◌+◌, ◌<◌, ◌^◌, List, length, None, Some, sym, ◌∙◌, ap, subst}
use Rattle.std.specs.Prelude.{true, false, get_or, slice_get, slice_set}
use Rattle.std.proofs.lemmas.Option.{get_or_from_slice_get}
use Rattle.image_meaning.specs.Laws.Options.{some_is}
use Rattle.site_model.specs.Disk.{Place, Disk, Appends, Syncs, Renames, IsRenamed, grown, synced}
use Rattle.site_model.specs.Touches.{touches_append, touches_sync, touches_rename, touches_more}
use Rattle.whole_file.specs.Whole as whole
use Rattle.whole_file.specs.Whole.{WritesWhole, IsWritten}
use Rattle.file_names.specs.Names.{name_bytes, place_of}
use Rattle.image_meaning.specs.Laws.Copy.{temp_apart}
use Rattle.image_meaning.specs.Share.{share_of}
use Rattle.plan_steps.specs.declared.plan.Stage.TheVariants as stage
use Rattle.plan_steps.specs.declared.plan.FileState.{FileState}
use Rattle.plan_steps.specs.Legal.{FitsPlaces}
use Rattle.plan_steps.specs.AsTold.{StandsAsTold}
use Rattle.plan_steps.specs.Laws.AsTold.{syncing_told, registering_told, removing_told, growing_told, putting_told}
use Rattle.plan_steps.specs.Progressing.{Running, IsNextPlace, FitsProgress}
use Rattle.plan_steps.specs.Laws.Progress.{registering_keeps, registering_fits, removing_keeps, removing_fits, syncing_keeps, syncing_fits, growing_keeps, growing_fits, putting_keeps, putting_fits}
use Rattle.plan_run.specs.Finishing.{IsNamedFile, TouchesFile, TouchesTemp, Keeps, Synced, SyncedTold, Registers, Registered, RegisteredTold, Clears, Cleared, ClearedTold}
use Rattle.plan_run.specs.Writing.{Grown, GrownTold, Puts, Put, PutTold}

-- what was read at a place of the list is the file there
pub file_is : (states : List FileState) (j : ℕ) (x s : FileState) → x ≡ get_or states j x → slice_get states j ≡ Some s → x ≡ s
file_is states j x s read at = read ∙ get_or_from_slice_get states j s x at

-- where a state that was read is changed, that of the file is
pub told_at : (states : List FileState) (j : ℕ) (x : FileState) → x ≡ get_or states j x → (next : FileState → FileState) (s : FileState) → slice_get states j ≡ Some s → slice_set states j (next x) ≡ slice_set states j (next s)
told_at states j x read next s at = ap (λ (z : FileState). slice_set states j (next z)) (file_is states j x s read at)

-- the two names of a file differ
pub names_differ : {volume servers : ℕ} {states : List FileState} {j : ℕ} {temp name : List ℕ} → volume < 2 ^ 32 → IsNamedFile volume servers states j temp name → name ≢ temp
names_differ {volume} below named e =
    temp_apart volume 0 0 named.file.kind named.file.kind below (ap (λ n. (0, n)) (sym named.final ∙ e ∙ named.temp))

module _ (r : Running) (servers j : ℕ) (temp name : List ℕ) (named : IsNamedFile r.plan.volume servers r.states j temp name) (x : FileState) (read : x ≡ get_or r.states j x) where
  -- ---- places

  module _ (s : FileState) (at : slice_get r.states j ≡ Some s) where
    is : x ≡ s
    is = file_is r.states j x s read at

    kind_is : named.file.kind ≡ s.kind
    kind_is = ap (λ (y : FileState). y.kind) (some_is named.file s (sym named.at ∙ at))

    temp_place : ◌≡◌ {A = Place} (x.server, temp) (place_of r.plan.volume s.server s.kind true)
    temp_place = λ k. ((is k).server, (named.temp ∙ ap (λ kind. name_bytes (record { volume = r.plan.volume; kind = kind; temp = true })) kind_is) k)

    final_place : ◌≡◌ {A = Place} (x.server, name) (place_of r.plan.volume s.server s.kind false)
    final_place = λ k. ((is k).server, (named.final ∙ ap (λ kind. name_bytes (record { volume = r.plan.volume; kind = kind; temp = false })) kind_is) k)

  -- ---- the list with another state of the file

  -- a state that was read at its place is that of the file
  read_fits : (next : FileState → FileState) (y s : FileState) → y ≡ get_or r.states j y → slice_get r.states j ≡ Some s → (P : List FileState → Type 0) → P (slice_set r.states j (next s)) → P (slice_set r.states j (next y))
  read_fits next y s was at P fits = subst (λ (z : FileState). P (slice_set r.states j (next z))) (sym (file_is r.states j y s was at)) fits

  module _ (old new : Disk) where
    -- ---- a sync

    pub sync_keeps : Syncs (x.server, temp) old new → Keeps r j old new
    sync_keeps did w f row start s fits at = syncing_keeps w f r row start old fits j s at (subst (λ (p : Place). Syncs p old new) (temp_place s at) did)

    pub sync_fits : Syncs (x.server, temp) old new → new.files (x.server, temp) ≡ synced (old.files (x.server, temp)) → (y : FileState) → y ≡ get_or r.states j y
        → Synced r j old new (record r { states = slice_set r.states j (record y { stage = stage.Synced }) })
    sync_fits did done y was w f row start s fits at written all =
        read_fits (λ z. record z { stage = stage.Synced }) y s was at (λ states. FitsProgress w f (record r { states = states }) row start (share_of new.files r.plan.volume))
        (syncing_fits w f r row start old fits j s at written all (subst (λ (p : Place). Syncs p old new) (temp_place s at) did)
        (subst (λ (p : Place). new.files p ≡ synced (old.files p)) (temp_place s at) done))

    pub sync_touches : Syncs (x.server, temp) old new → TouchesTemp r j old new
    sync_touches did s at = touches_sync (subst (λ (p : Place). Syncs p old new) (temp_place s at) did)

    pub sync_told : Syncs (x.server, temp) old new → new.files (x.server, temp) ≡ synced (old.files (x.server, temp)) → (y : FileState) → y ≡ get_or r.states j y
        → SyncedTold r j old new (record r { states = slice_set r.states j (record y { stage = stage.Synced }) })
    sync_told did done y was s at below are so told =
        read_fits (λ z. record z { stage = stage.Synced }) y s was at (λ states. StandsAsTold r.plan states (share_of new.files r.plan.volume))
        (syncing_told r.plan below r.states are old new told j s at so.0 so.1 (subst (λ (p : Place). Syncs p old new) (temp_place s at) did)
        (subst (λ (p : Place). new.files p ≡ synced (old.files p)) (temp_place s at) done))

    -- ---- a rename to the final name

    renames_at : (s : FileState) → slice_get r.states j ≡ Some s → Renames (x.server, temp) (x.server, name) old new → Renames (place_of r.plan.volume s.server s.kind true) (place_of r.plan.volume s.server s.kind false) old new
    renames_at s at did = subst (λ (p : Place × Place). Renames p.0 p.1 old new) (λ k. (temp_place s at k, final_place s at k)) did

    pub register_keeps : Renames (x.server, temp) (x.server, name) old new → Registers r j old new
    register_keeps did w f row start s fits at ready may = registering_keeps w f r row start old fits j s at ready may (renames_at s at did)

    pub register_fits : Renames (x.server, temp) (x.server, name) old new → IsRenamed (x.server, temp) (x.server, name) old.files new.files → (y : FileState) → y ≡ get_or r.states j y
        → Registered r j old new (record r { states = slice_set r.states j (record y { stage = stage.Registered }) })
    register_fits did done y was w f row start s fits at ready may turn onward places =
        let same = file_is r.states j y s was at in
        read_fits (λ z. record z { stage = stage.Registered }) y s was at (λ states. FitsProgress w f (record r { states = states }) onward start (share_of new.files r.plan.volume))
        (registering_fits w f r row start old fits j s at ready may turn onward
        (subst (λ (z : FileState). FitsPlaces r.plan (slice_set r.states j (record z { stage = stage.Registered })) onward) same places)
        (renames_at s at did) (subst (λ (p : Place × Place). IsRenamed p.0 p.1 old.files new.files) (λ k. (temp_place s at k, final_place s at k)) done))

    pub register_touches : Renames (x.server, temp) (x.server, name) old new → TouchesFile r j old new
    register_touches did s at = touches_more (λ k. ⊎_elim (λ from. inr from) (λ to. inl to)) (touches_rename (renames_at s at did))

    pub register_told : Renames (x.server, temp) (x.server, name) old new → IsRenamed (x.server, temp) (x.server, name) old.files new.files → (y : FileState) → y ≡ get_or r.states j y
        → RegisteredTold r j old new (record r { states = slice_set r.states j (record y { stage = stage.Registered }) })
    register_told did done y was s at below are so told =
        read_fits (λ z. record z { stage = stage.Registered }) y s was at (λ states. StandsAsTold r.plan states (share_of new.files r.plan.volume))
        (registering_told r.plan below r.states are old new told j s at so.0 so.1 (renames_at s at did)
        (subst (λ (p : Place × Place). IsRenamed p.0 p.1 old.files new.files) (λ k. (temp_place s at k, final_place s at k)) done))

    -- ---- a removal

    clears_at : (s : FileState) → slice_get r.states j ≡ Some s → whole.Clears (x.server, name) old new → whole.Clears (place_of r.plan.volume s.server s.kind false) old new
    clears_at s at did = subst (λ (p : Place). whole.Clears p old new) (final_place s at) did

    pub clear_keeps : whole.Clears (x.server, name) old new → Clears r j old new
    clear_keeps did w f row start s fits at stands turn may = removing_keeps w f r row start old fits j s at stands turn may (clears_at s at did)

    pub clear_fits : whole.Clears (x.server, name) old new → new.files (x.server, name) ≡ None → (y : FileState) → y ≡ get_or r.states j y
        → Cleared r j old new (record r { states = slice_set r.states j (record y { stage = stage.Gone }) })
    clear_fits did done y was w f row start s fits at stands turn may onward places =
        let same = file_is r.states j y s was at in
        read_fits (λ z. record z { stage = stage.Gone }) y s was at (λ states. FitsProgress w f (record r { states = states }) onward start (share_of new.files r.plan.volume))
        (removing_fits w f r row start old fits j s at stands turn may onward
        (subst (λ (z : FileState). FitsPlaces r.plan (slice_set r.states j (record z { stage = stage.Gone })) onward) same places)
        (clears_at s at did) (subst (λ (p : Place). new.files p ≡ None) (final_place s at) done))

    pub clear_touches : whole.Clears (x.server, name) old new → TouchesFile r j old new
    clear_touches did s at = touches_more (λ k same. inl same) (clears_at s at did).touches

    pub clear_told : whole.Clears (x.server, name) old new → (y : FileState) → y ≡ get_or r.states j y
        → ClearedTold r j old new (record r { states = slice_set r.states j (record y { stage = stage.Gone }) })
    clear_told did y was s at below are so told =
        read_fits (λ z. record z { stage = stage.Gone }) y s was at (λ states. StandsAsTold r.plan states (share_of new.files r.plan.volume))
        (removing_told r.plan below r.states are old new told j s at so (clears_at s at did))

    -- ---- an append

    pub grow_keeps : (piece : List ℕ) → Appends (x.server, temp) piece old new → Keeps r j old new
    grow_keeps piece did w f row start s fits at = growing_keeps w f r row start old fits j s at (subst (λ (p : Place). Appends p piece old new) (temp_place s at) did)

    pub grow_fits : (piece : List ℕ) → Appends (x.server, temp) piece old new → new.files (x.server, temp) ≡ Some (grown (old.files (x.server, temp)) piece)
        → Grown r j piece old new (record r { states = slice_set r.states j (record x { length = x.length + length piece; stage = stage.Writing }) })
    grow_fits piece did done w f row start s fits at begun bytes planned right room place behind =
        let same = is s at in
        subst (λ (z : FileState). FitsProgress w f (record r { states = slice_set r.states j (record z { length = z.length + length piece; stage = stage.Writing }); place = place }) row start (share_of new.files r.plan.volume)) (sym same)
        (growing_fits w f r row start old fits j s at begun bytes planned piece right room place
        (subst (λ (z : FileState). IsNextPlace f.parts (record r { states = slice_set r.states j (record z { length = z.length + length piece; stage = stage.Writing }); place = place })) same behind)
        (subst (λ (p : Place). Appends p piece old new) (temp_place s at) did)
        (subst (λ (p : Place). new.files p ≡ Some (grown (old.files p) piece)) (temp_place s at) done))

    pub grow_touches : (piece : List ℕ) → Appends (x.server, temp) piece old new → TouchesTemp r j old new
    grow_touches piece did s at = touches_append (subst (λ (p : Place). Appends p piece old new) (temp_place s at) did)

    pub grow_told : (piece : List ℕ) → Appends (x.server, temp) piece old new → new.files (x.server, temp) ≡ Some (grown (old.files (x.server, temp)) piece)
        → GrownTold r j old new (record r { states = slice_set r.states j (record x { length = x.length + length piece; stage = stage.Writing }) })
    grow_told piece did done s at below are so told =
        subst (λ (z : FileState). StandsAsTold r.plan (slice_set r.states j (record z { length = z.length + length piece; stage = stage.Writing })) (share_of new.files r.plan.volume)) (sym (is s at))
        (growing_told r.plan below r.states are old new told j s at piece so (subst (λ (p : Place). Appends p piece old new) (temp_place s at) did)
        (subst (λ (p : Place). new.files p ≡ Some (grown (old.files p) piece)) (temp_place s at) done))

    -- ---- a file that is written whole

    writes_at : (s : FileState) → slice_get r.states j ≡ Some s → (bytes : List ℕ) → WritesWhole (x.server, name) (x.server, temp) bytes old new → WritesWhole (place_of r.plan.volume s.server s.kind false) (place_of r.plan.volume s.server s.kind true) bytes old new
    writes_at s at bytes did = subst (λ (p : Place × Place). WritesWhole p.0 p.1 bytes old new) (λ k. (final_place s at k, temp_place s at k)) did

    pub put_keeps : (bytes : List ℕ) → WritesWhole (x.server, name) (x.server, temp) bytes old new → Puts r j bytes old new
    put_keeps bytes did w f row start s fits at absent planned may = putting_keeps w f r row start old fits j s at absent bytes planned may (writes_at s at bytes did)

    pub put_fits : (bytes : List ℕ) → WritesWhole (x.server, name) (x.server, temp) bytes old new → IsWritten (x.server, name) (x.server, temp) bytes new
        → Put r j bytes old new (record r { states = slice_set r.states j (record x { length = length bytes; stage = stage.Registered }) })
    put_fits bytes did done w f row start s fits at absent planned may turn onward places place behind =
        let same = is s at in
        subst (λ (z : FileState). FitsProgress w f (record r { states = slice_set r.states j (record z { length = length bytes; stage = stage.Registered }); place = place }) onward start (share_of new.files r.plan.volume)) (sym same)
        (putting_fits w f r row start old fits j s at absent bytes planned may turn onward
        (subst (λ (z : FileState). FitsPlaces r.plan (slice_set r.states j (record z { length = length bytes; stage = stage.Registered })) onward) same places) place
        (subst (λ (z : FileState). IsNextPlace f.parts (record r { states = slice_set r.states j (record z { length = length bytes; stage = stage.Registered }); place = place })) same behind)
        (writes_at s at bytes did) (subst (λ (p : Place × Place). IsWritten p.0 p.1 bytes new) (λ k. (final_place s at k, temp_place s at k)) done))

    pub put_touches : (bytes : List ℕ) → WritesWhole (x.server, name) (x.server, temp) bytes old new → TouchesFile r j old new
    put_touches bytes did s at = (writes_at s at bytes did).touches

    pub put_told : (bytes : List ℕ) → WritesWhole (x.server, name) (x.server, temp) bytes old new → IsWritten (x.server, name) (x.server, temp) bytes new
        → PutTold r j bytes old new (record r { states = slice_set r.states j (record x { length = length bytes; stage = stage.Registered }) })
    put_told bytes did done s at below are so told =
        subst (λ (z : FileState). StandsAsTold r.plan (slice_set r.states j (record z { length = length bytes; stage = stage.Registered })) (share_of new.files r.plan.volume)) (sym (is s at))
        (putting_told r.plan below r.states are old new told j s at bytes so.0 so.1 (writes_at s at bytes did)
        (subst (λ (p : Place × Place). IsWritten p.0 p.1 bytes new) (λ k. (final_place s at k, temp_place s at k)) done))

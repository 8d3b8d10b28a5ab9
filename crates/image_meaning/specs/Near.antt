-- When what a stop leaves is near a world: volume by volume, so that one line is argued for its own volume alone.
use Rattle.std.proofs.Common.{◌≡◌, ◌≢◌, ◌⊎◌, inl, inr, ⊎_elim, ℕ, ◌<◌, ◌≤◌, Bool, true, false, Option, Some, None, refl, sym, ◌∙◌, ap, subst}
use Rattle.std.specs.Prelude.{if◌then◌else◌}
use Rattle.std.proofs.lemmas.Bool.{cases_eq, cases_lt, lt-ltb, le-ltb}
use Rattle.site_model.specs.Disk.{Image}
use Rattle.site_model.specs.Standing.{lose}
use Rattle.world_model.specs.declared.types.Mode.{Mode}
use Rattle.world_model.specs.declared.types.Mode.TheVariants as mode
use Rattle.world_model.specs.declared.types.Command.{Command}
use Rattle.world_model.specs.declared.types.Command.TheVariants.{Encode, Rebuild, Balance, Decode}
use Rattle.world_model.specs.World.{Volume, World}
use Rattle.image_meaning.specs.Files.{VolumeFiles, files_of}
use Rattle.image_meaning.specs.Meaning.{volume_of, lost_volume, max_volumes}
use Rattle.image_meaning.specs.Sound.{IsSound, IsSoundVolume}
use Rattle.image_meaning.specs.Ends.{MayMean, NearVolume, IsNear, is_changing, changes_form, unmarked}
use Rattle.image_meaning.specs.Outlasts.{Outlasts, outlasts_more, IsLeftAs, IsHeld}

-- what a world has of a volume, a loss may leave near it
abbrev pub NearIn : World → ℕ → Option Volume → Type 0
NearIn w v it = NearVolume (is_changing w.jobs v) (w.volumes v) it

-- A sound image, whose worlds are all near this one.
pub record IsLeftBy (w : World) (image : Image) : Type 0 where
  pub sound : IsSound image
  pub worlds : (u : World) → MayMean image u → IsNear w u

-- near one of two
pub record IsLeftByEither (w next : World) (image : Image) : Type 0 where
  pub sound : IsSound image
  pub worlds : (u : World) → MayMean image u → IsNear w u ⊎ IsNear next u

-- there are no volumes but those whose numbers have names
abbrev pub IsBounded : World → Type 0
IsBounded w = (v : ℕ) → max_volumes ≤ v → w.volumes v ≡ None

-- ---- one volume

near_lost : (changing : Bool) (w : Option Volume) → NearVolume changing w (Some lost_volume) → NearVolume changing w None
near_lost true None near = absurd near
near_lost false None near = absurd near
near_lost true (Some w) near = absurd (⊎_elim not_plain not_coded near.2)
  where
    not_plain : mode.Lost ≡ mode.Plain → ⊥
    not_plain e = cc

    not_coded : mode.Lost ≡ mode.Coded → ⊥
    not_coded e = cc
near_lost false (Some w) near = by_mode w.mode near.2
  where
    by_mode : (m : Mode) → mode.Lost ≡ unmarked m → m ≡ mode.Lost
    by_mode mode.Plain e = absurd cc
    by_mode mode.Sealed e = absurd cc
    by_mode mode.Coded e = absurd cc
    by_mode mode.Lost e = refl

-- what is held is near where it is near as it stands
pub held_near : (files : VolumeFiles) (it : Option Volume) (changing : Bool) (w : Option Volume) → IsHeld files it → NearVolume changing w it → Outlasts (NearVolume changing w) files
held_near files it changing w held near = outlasts_more files left held.outlasts
  where
    left : (found : Option Volume) → IsLeftAs it found → NearVolume changing w found
    left found (inl e) = subst (NearVolume changing w) (sym e) near
    left found (inr (lost, e)) = subst (NearVolume changing w) (sym e) (near_lost changing w (subst (NearVolume changing w) lost near))

-- ---- while a command has the volume

-- the forms that it may have then
abbrev pub IsFormOf : Command → Mode → Mode → Type 0
IsFormOf (Encode ratio) before now = (now ≡ mode.Plain) ⊎ (now ≡ mode.Coded)
IsFormOf Rebuild before now = now ≡ before
IsFormOf Balance before now = now ≡ before
IsFormOf Decode before now = (now ≡ mode.Plain) ⊎ (now ≡ mode.Coded)

-- The files hold what the volume held before, in one of these forms.
pub record IsUnderway (command : Command) (vol : Volume) (files : VolumeFiles) : Type 0 where
  pub form : Mode
  pub is_form : IsFormOf command vol.mode form
  pub held : IsHeld files (Some (record vol { mode = form }))

near_form : (command : Command) (vol w : Volume) (form : Mode) → IsFormOf command vol.mode form → w.used ≡ vol.used → w.needles ≡ vol.needles → vol.mode ≡ unmarked w.mode
    → NearVolume (changes_form command) (Some w) (Some (record vol { mode = form }))
near_form (Encode ratio) vol w form is used needles marks = (sym used, sym needles, is)
near_form Decode vol w form is used needles marks = (sym used, sym needles, is)
near_form Rebuild vol w form is used needles marks = (sym used, sym needles, is ∙ marks)
near_form Balance vol w form is used needles marks = (sym used, sym needles, is ∙ marks)

-- so they are near the world that has the job unfinished, at every moment of it
pub underway_near : (command : Command) (vol w : Volume) (files : VolumeFiles) → IsUnderway command vol files → w.used ≡ vol.used → w.needles ≡ vol.needles → vol.mode ≡ unmarked w.mode
    → Outlasts (NearVolume (changes_form command) (Some w)) files
underway_near command vol w files is used needles marks =
    held_near files (Some (record vol { mode = is.form })) (changes_form command) (Some w) is.held (near_form command vol w is.form is.is_form used needles marks)

-- ---- all volumes

-- what one lost set leaves of a volume of a world
module _ (image : Image) (u : World) (may : MayMean image u) where
  means_at : (v : ℕ) → v < max_volumes → u.volumes v ≡ volume_of (files_of (lose may.lost image) v)
  means_at v h = ap (λ (x : World). x.volumes v) may.means ∙ ap (λ b. if b then volume_of (files_of (lose may.lost image) v) else None) (lt-ltb v max_volumes h)

  means_beyond : (v : ℕ) → max_volumes ≤ v → u.volumes v ≡ None
  means_beyond v h = ap (λ (x : World). x.volumes v) may.means ∙ ap (λ b. if b then volume_of (files_of (lose may.lost image) v) else None) (le-ltb v max_volumes h)

  near_at : (w : World) (v : ℕ) (h : v < max_volumes) → Outlasts (NearIn w v) (files_of image v) → NearIn w v (u.volumes v)
  near_at w v h outlasts = subst (NearIn w v) (sym (means_at v h)) (outlasts.left may.lost (may.survivable v h))

  near_beyond : (w : World) → IsBounded w → (v : ℕ) → max_volumes ≤ v → NearIn w v (u.volumes v)
  near_beyond w bounded v h = subst (NearIn w v) (sym (means_beyond v h)) (subst (λ o. NearVolume (is_changing w.jobs v) o None) (sym (bounded v h)) tt)

-- Each volume is near: so are the worlds.
pub image_near : (w : World) (image : Image) → IsBounded w → ((v : ℕ) → v < max_volumes → Outlasts (NearIn w v) (files_of image v)) → IsLeftBy w image
image_near w image bounded each = record {
  sound = λ v h. (each v h).sound;
  worlds = λ u may v. ⊎_elim (λ h. near_at image u may w v h (each v h)) (λ h. near_beyond image u may w bounded v h) (cases_lt v max_volumes);
}

-- the next world is as before elsewhere
pub record DiffersAt (v : ℕ) (w next : World) : Type 0 where
  pub volumes : (q : ℕ) → q ≢ v → next.volumes q ≡ w.volumes q
  pub jobs : (q : ℕ) → q ≢ v → is_changing next.jobs q ≡ is_changing w.jobs q

-- A line on one volume: that one is near the world before, or near the one after, and each other is as before.
pub line_near : (v : ℕ) (w next : World) (image : Image) → v < max_volumes → IsBounded w → DiffersAt v w next
    → ((q : ℕ) → q < max_volumes → q ≢ v → Outlasts (NearIn w q) (files_of image q))
    → Outlasts (λ it. NearIn w v it ⊎ NearIn next v it) (files_of image v) → IsLeftByEither w next image
line_near v w next image below bounded differs elsewhere there = record {
  sound = λ q h. elim (cases_eq q v) [
    | inl e ↦ subst (λ p. IsSoundVolume (files_of image p)) (sym e) there.sound
    | inr other ↦ (elsewhere q h other).sound
  ];
  worlds = λ u may. ⊎_elim (λ near. inl (λ q. before u may near q)) (λ near. inr (λ q. after u may near q)) (at u may);
}
  where
    at : (u : World) → MayMean image u → NearIn w v (u.volumes v) ⊎ NearIn next v (u.volumes v)
    at u may = subst (λ o. NearIn w v o ⊎ NearIn next v o) (sym (means_at image u may v below)) (there.left may.lost (may.survivable v below))

    others : (u : World) → MayMean image u → (q : ℕ) → q ≢ v → NearIn w q (u.volumes q)
    others u may q other = ⊎_elim (λ h. near_at image u may w q h (elsewhere q h other)) (λ h. near_beyond image u may w bounded q h) (cases_lt q max_volumes)

    before : (u : World) → MayMean image u → NearIn w v (u.volumes v) → (q : ℕ) → NearIn w q (u.volumes q)
    before u may near q = elim (cases_eq q v) [
      | inl e ↦ subst (λ p. NearIn w p (u.volumes p)) (sym e) near
      | inr other ↦ others u may q other
    ]

    after : (u : World) → MayMean image u → NearIn next v (u.volumes v) → (q : ℕ) → NearIn next q (u.volumes q)
    after u may near q = elim (cases_eq q v) [
      | inl e ↦ subst (λ p. NearIn next p (u.volumes p)) (sym e) near
      | inr other ↦ subst (λ b. NearVolume b (next.volumes q) (u.volumes q)) (sym (differs.jobs q other))
          (subst (λ o. NearVolume (is_changing w.jobs q) o (u.volumes q)) (sym (differs.volumes q other)) (others u may q other))
    ]

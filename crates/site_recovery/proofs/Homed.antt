-- A table that gets the homes of volumes' shards, one by one. For the recovery of coded volumes, to come.
use Rattle.std.proofs.Common.{◌≡◌, ◌≢◌, inl, inr, ⊎_elim, ℕ, ◌+◌, ◌<◌, ◌≤◌, Bool, true, false, cond, List, [], ◌∷◌, ◌++◌, length, map, take, Option, Some, None, refl, sym, ◌∙◌, ap, subst, arith}
use Rattle.std.specs.Prelude.{IsSome, slice_index_or, slice_set, unwrap_or, Contains}
use Rattle.std.specs.Ordering.{nat_cmp, eq_by_cmp, is_eq}
use Rattle.std.specs.declared.cmp.Ordering.{Ordering}
use Rattle.std.specs.declared.cmp.Ordering.TheVariants.{Less, Equal, Greater}
use Rattle.std.specs.FinMap.{contains_key, empty, get, get-empty, get-insert, insert}
use Rattle.std.specs.Option.{ForSome}
use Rattle.std.specs.List.{All}
use Rattle.std.specs.List.Sorted.{IsStrictlyIncreasing}
use Rattle.std.proofs.lemmas.Bool.{cases_eq, false≢true}
use Rattle.std.proofs.lemmas.Cmp.{nat_cmp_total, tied_itself}
use Rattle.std.specs.FinMap.{nat_cmp-IsAntisymmetric}
use Rattle.std.proofs.lemmas.List.{ext_get_or, get_or-set_same, get_or-set_other, length-set, get_or_default, get_or-take, get_or-map, length-map, length-take, take_more}
use Rattle.std.proofs.lemmas.List.Elements.{All-contains, Contains-append_left, Contains-push, Contains-push_cases}
use Rattle.std.proofs.lemmas.List.Kept.{AllPairs-from_increasing}
use Rattle.file_names.specs.Names.{max_shards}
use Rattle.shard_table.specs.Table.{Table, Row, IsAdded, no_places, place_in, row_of, with_place, with_volume}
use Rattle.shard_table.specs.Laws.Table.{row_of-with_place, row_of-with_volume, IsAdded-with_place}
use Rattle.coded_volume.specs.declared.checking.Checked.{Checked}
use Rattle.coded_volume.specs.declared.checking.ShardCopy.{ShardCopy}
use Rattle.coded_volume.specs.Checking.{AreCopies}
use Rattle.std.specs.Global.{Vec}
use Rattle.site_recovery.specs.Answering.{HasRow, HasHomes, HasHomesIn, HasShardsOf, home_in, if_coded, if_lost, coded_number}
use Rattle.site_recovery.specs.Listing.{IsLeastOf}
use Rattle.site_recovery.specs.Placing.{AreHomesOf, servers_with}
use Rattle.site_recovery.specs.declared.forms.ListedForm.{ListedForm}
use Rattle.site_recovery.specs.declared.forms.ListedForm.TheVariants as form
use Rattle.site_recovery.specs.declared.forms.TestedGroup.{TestedGroup}
use Rattle.site_recovery.proofs.Members.{none_in}
use Rattle.site_recovery.proofs.Placed.{with_has}

-- ---- the lists

pub no_home : (f : ListedForm) → ((home dat idx : ℕ) → f ≡ form.Plain home dat idx → ⊥) → home_in f ≡ None
no_home (form.Plain home dat idx) none = absurd (none home dat idx refl)
no_home (form.Coded copies checked) none = refl
no_home form.Lost none = refl
no_home form.Absent none = refl

pub none_coded : (v : ℕ) (f : ListedForm) → ((copies : Vec ShardCopy) (checked : Checked) → f ≡ form.Coded copies checked → ⊥) → if_coded v f ≡ None
none_coded v (form.Plain home dat idx) none = refl
none_coded v (form.Coded copies checked) none = absurd (none copies checked refl)
none_coded v form.Lost none = refl
none_coded v form.Absent none = refl

pub none_lost : (v : ℕ) (f : ListedForm) → (f ≡ form.Lost → ⊥) → if_lost v f ≡ None
none_lost v (form.Plain home dat idx) none = refl
none_lost v (form.Coded copies checked) none = refl
none_lost v form.Lost none = absurd (none refl)
none_lost v form.Absent none = refl

-- ---- one place

equal : (o : Ordering) → is_eq o ≡ true → o ≡ Equal
equal Less e = absurd (false≢true e)
equal Equal e = refl
equal Greater e = absurd (false≢true e)

other_key : (other volume : ℕ) → other ≢ volume → (b : Bool) → eq_by_cmp nat_cmp other volume ≡ b → b ≡ false
other_key other volume apart true e = absurd (apart (nat_cmp-IsAntisymmetric other volume (equal (nat_cmp other volume) e)))
other_key other volume apart false e = refl

module _ (old : Table) (volume i : ℕ) (place : Option ℕ) where
  placed_here : row_of (with_place old volume i place) volume ≡ slice_set (row_of old volume) i place
  placed_here = row_of-with_place old volume i place volume ∙ ap (λ o. cond (is_eq o) (slice_set (row_of old volume) i place) (row_of old volume)) (tied_itself nat_cmp_total volume)

  placed_other : (other : ℕ) → other ≢ volume → row_of (with_place old volume i place) other ≡ row_of old other
  placed_other other apart =
      row_of-with_place old volume i place other
      ∙ ap (λ b. cond b (slice_set (row_of old volume) i place) (row_of old other)) (other_key other volume apart (eq_by_cmp nat_cmp other volume) refl)

-- ---- all places of a volume

-- the first n places of the volume are these, and nothing else of the table is otherwise but its other places
pub record HasFront (volume n : ℕ) (homes : Row) (old new : Table) : Type 0 where
  pub long : length (row_of new volume) ≡ max_shards
  pub front : (i : ℕ) → i < n → place_in (row_of new volume) i ≡ place_in homes i
  pub added : (other : ℕ) → IsAdded old other → IsAdded new other
  pub others : (other : ℕ) → other ≢ volume → row_of new other ≡ row_of old other
  pub servers : new.servers ≡ old.servers

pub front_none : (volume : ℕ) (homes : Row) (table : Table) → row_of table volume ≡ no_places → HasFront volume 0 homes table table
front_none volume homes table fresh = record {
  long = ap length fresh;
  front = λ i low. absurd (omega (arith, low));
  added = λ other was. was;
  others = λ other apart. refl;
  servers = refl;
}

pub front_more : (volume n : ℕ) (homes : Row) (old mid new : Table) → n < max_shards → HasFront volume n homes old mid → new ≡ with_place mid volume n (place_in homes n) → HasFront volume (n + 1) homes old new
front_more volume n homes old mid new short before is = record {
  long = ap length here ∙ length-set (row_of mid volume) n (place_in homes n) ∙ before.long;
  front = λ i low. ap (λ row. place_in row i) here ∙ elim (cases_eq i n) [
    | inl same ↦
        ap (λ j. place_in (slice_set (row_of mid volume) n (place_in homes n)) j) same ∙ get_or-set_same (row_of mid volume) n (place_in homes n) None (omega (arith, short, before.long)) ∙ ap (place_in homes) (sym same)
    | inr other ↦ get_or-set_other (row_of mid volume) n i (place_in homes n) None other ∙ before.front i (omega (arith, low, other))
  ];
  added = λ other was. subst (λ t. IsAdded t other) (sym is) (IsAdded-with_place mid volume n (place_in homes n) other (before.added other was));
  others = λ other apart. ap (λ t. row_of t other) is ∙ placed_other mid volume n (place_in homes n) other apart ∙ before.others other apart;
  servers = ap (λ (t : Table). t.servers) is ∙ before.servers;
}
  where
    here : row_of new volume ≡ slice_set (row_of mid volume) n (place_in homes n)
    here = ap (λ t. row_of t volume) is ∙ placed_here mid volume n (place_in homes n)

pub front_all : (volume n : ℕ) (homes : Row) (old new : Table) → length homes ≡ max_shards → max_shards ≤ n → HasFront volume n homes old new → HasRow volume homes old new
front_all volume n homes old new all enough front = record {
  row = ext_get_or None (row_of new volume) homes (front.long ∙ sym all) (λ i low. front.front i (omega (arith, low, front.long, enough)));
  added = front.added;
  others = front.others;
  servers = front.servers;
}

-- ---- one volume

-- volumes that were added stay so
still_added : (t : Table) (volume other : ℕ) → IsAdded t other → IsAdded (with_volume t volume) other
still_added t volume other was = by_key (contains_key t.rows volume)
  where
    there : IsSome (get (insert t.rows volume no_places) other)
    there = subst IsSome (sym (get-insert nat_cmp_total t.rows volume no_places other)) (by_test (eq_by_cmp nat_cmp other volume))
      where
        by_test : (b : Bool) → IsSome (cond b (Some no_places) (get t.rows other))
        by_test true = refl
        by_test false = was

    by_key : (b : Bool) → IsSome (get (cond b t.rows (insert t.rows volume no_places)) other)
    by_key true = was
    by_key false = there

pub row_added : (volume : ℕ) (old mid new : Table) (homes : Row) → mid ≡ with_volume old volume → HasRow volume homes mid new → HasRow volume (row_of new volume) old new
row_added volume old mid new homes is set = record {
  row = refl;
  added = λ other was. set.added other (subst (λ t. IsAdded t other) (sym is) (still_added old volume other was));
  others = λ other apart. set.others other apart ∙ ap (λ t. row_of t other) is ∙ row_of-with_volume old volume other;
  servers = set.servers ∙ ap (λ (t : Table). t.servers) is;
}

pub row_fresh : (volume : ℕ) (old mid : Table) → mid ≡ with_volume old volume → row_of old volume ≡ no_places → row_of mid volume ≡ no_places
row_fresh volume old mid is fresh = ap (λ t. row_of t volume) is ∙ row_of-with_volume old volume volume ∙ fresh

-- the homes are at servers of the site
pub homes_below : (servers count : ℕ) (copies : List ShardCopy) (homes : Row) → count ≡ servers → AreCopies servers copies → AreHomesOf copies homes → All (λ home. ForSome home (λ server. server < count)) homes
homes_below servers count copies homes same are of k d short server at =
    let low : k < max_shards = omega (arith, short, of.all) in
    let home : slice_index_or homes k None ≡ Some server = get_or_default homes k None d (omega (arith, short)) ∙ at in
    let least = subst (IsLeastOf (servers_with copies k)) home (of.each k low) in
    subst (λ n. server < n) (sym same) (All-contains (λ (c : ShardCopy). c.server < servers) copies (record { server = server; shard = k }) are.on_servers (with_has copies server k least.0))

-- ---- the volumes that were tested

pub shards_none : (servers : ℕ) → HasShardsOf [] (record { servers = servers; rows = empty })
shards_none servers = record { each = λ t has. absurd (none_in t has); others = λ v none. ap (λ o. unwrap_or o no_places) (get-empty nat_cmp v) }

-- the volumes before one are others
pub earlier_apart : (tested : List TestedGroup) (n : ℕ) (d : TestedGroup) → n < length tested → IsStrictlyIncreasing (map (λ (t : TestedGroup). t.group.volume) tested)
    → (u : TestedGroup) → Contains (take n tested) u → u.group.volume ≢ (slice_index_or tested n d).group.volume
earlier_apart tested n d fits rise u (k, low, at) same =
    let volumes : List ℕ = map (λ (t : TestedGroup). t.group.volume) tested in
    let long : length volumes ≡ length tested = length-map tested (λ (t : TestedGroup). t.group.volume) in
    let before : k < n = omega (arith, low, length-take n tested) in
    let one : slice_index_or volumes k u.group.volume ≡ u.group.volume =
    get_or-map (λ (t : TestedGroup). t.group.volume) tested k u u.group.volume (omega (arith, before, fits)) ∙ ap (λ (t : TestedGroup). t.group.volume) (sym (get_or-take n tested k u before) ∙ at) in
    let two : slice_index_or volumes n u.group.volume ≡ (slice_index_or tested n d).group.volume = get_or-map (λ (t : TestedGroup). t.group.volume) tested n d u.group.volume fits in
    let less = AllPairs-from_increasing volumes rise k n u.group.volume before (omega (arith, long, fits)) in
    omega (arith, less, one, two, same)

-- a coded volume has its row as before, where another one gets its own
homes_kept : (v w : ℕ) (old new : Table) → v ≢ w → HasRow w (row_of new w) old new → (f : ListedForm) → HasHomesIn old v f → HasHomesIn new v f
homes_kept v w old new apart set (form.Plain home dat idx) has = tt
homes_kept v w old new apart set (form.Coded copies checked) has = record {
  added = set.added v has.added;
  homes = subst (AreHomesOf copies.items) (sym (set.others v apart)) has.homes;
}
homes_kept v w old new apart set form.Lost has = tt
homes_kept v w old new apart set form.Absent has = tt

not_coded : (table : Table) (v : ℕ) (f : ListedForm) → if_coded v f ≡ None → HasHomesIn table v f
not_coded table v (form.Plain home dat idx) e = tt
not_coded table v (form.Coded copies checked) e = absurd (none_some e)
  where
    none_some : ◌≡◌ {A = Option ℕ} (Some v) None → ⊥
    none_some e = absurd cc
not_coded table v form.Lost e = tt
not_coded table v form.Absent e = tt

module _ (tested : List TestedGroup) (n : ℕ) (d : TestedGroup) (fits : n < length tested) (old : Table) (was : HasShardsOf (take n tested) old) where
  abbrev this : TestedGroup
  this = slice_index_or tested n d

  more : take (n + 1) tested ≡ take n tested ++ this ∷ []
  more = take_more tested n d fits

  skip_this : coded_number this ≡ None → HasShardsOf (take n tested ++ this ∷ []) old
  skip_this none = record {
    each = λ u has. ⊎_elim (λ before. was.each u before) (λ same. subst (λ (w : TestedGroup). HasHomesIn old w.group.volume w.form) same (not_coded old this.group.volume this.form none)) (Contains-push_cases (take n tested) this u has);
    others = λ v nowhere. was.others v (λ u has. nowhere u (Contains-append_left (take n tested) (this ∷ []) u has));
  }

  pub shards_skip : coded_number this ≡ None → HasShardsOf (take (n + 1) tested) old
  shards_skip none = subst (λ (ts : List TestedGroup). HasShardsOf ts old) (sym more) (skip_this none)

  module _ (rise : IsStrictlyIncreasing (map (λ (t : TestedGroup). t.group.volume) tested)) where
    apart : (u : TestedGroup) → Contains (take n tested) u → u.group.volume ≢ this.group.volume
    apart = earlier_apart tested n d fits rise

    number_is : (u : TestedGroup) (v : ℕ) → coded_number u ≡ Some v → u.group.volume ≡ v
    number_is u v e = by_form u.form e
      where
        by_form : (f : ListedForm) → if_coded u.group.volume f ≡ Some v → u.group.volume ≡ v
        by_form (form.Plain home dat idx) e = absurd cc
        by_form (form.Coded copies checked) e = cc
        by_form form.Lost e = absurd cc
        by_form form.Absent e = absurd cc

    -- so it has no shards in the table yet
    pub this_fresh : row_of old this.group.volume ≡ no_places
    this_fresh = was.others this.group.volume (λ u has e. apart u has (number_is u this.group.volume e))

    module _ (new : Table) (copies : Vec ShardCopy) (checked : Checked) (is : this.form ≡ form.Coded copies checked) (homes : HasHomes new this.group.volume copies.items) (set : HasRow this.group.volume (row_of new this.group.volume) old new) where
      coded : coded_number this ≡ Some this.group.volume
      coded = ap (if_coded this.group.volume) is

      add_this : HasShardsOf (take n tested ++ this ∷ []) new
      add_this = record {
        each = λ u has. ⊎_elim
            (λ before. homes_kept u.group.volume this.group.volume old new (apart u before) set u.form (was.each u before))
            (λ same. subst (λ (w : TestedGroup). HasHomesIn new w.group.volume w.form) same (subst (HasHomesIn new this.group.volume) (sym is) homes))
            (Contains-push_cases (take n tested) this u has);
        others = λ v nowhere.
            set.others v (λ same. nowhere this (Contains-push (take n tested) this) (coded ∙ ap Some (sym same))) ∙ was.others v (λ u has. nowhere u (Contains-append_left (take n tested) (this ∷ []) u has));
      }

      pub shards_more : HasShardsOf (take (n + 1) tested) new
      shards_more = subst (λ (ts : List TestedGroup). HasShardsOf ts new) (sym more) add_this

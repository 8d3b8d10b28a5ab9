-- What is loaded of an index.
use Rattle.std.specs.Prelude.{◌≡◌, ℕ, ◌<◌, List, [], ◌∷◌, ◌++◌, Option, Some, None, pos, ◌<ℤ◌}
use Rattle.std.specs.Ordering.{nat_cmp}
use Rattle.std.specs.FinMap.{FinMap}
use Rattle.std.specs.List.{AllByRecursion}
use Rattle.site_model.specs.Disk.{File}
use Rattle.site_model.specs.declared.error.OpenFault.{OpenFault}
use Rattle.site_model.specs.declared.error.OpenFault.TheVariants.{Unsound, Fault, Memory}
use Rattle.volume_forms.specs.declared.Entry.{Entry}
use Rattle.ecx_index.specs.Listed.{map_of}
use Rattle.image_meaning.specs.Sound.{IsSortedIndex}
use Rattle.ecx_index.specs.declared.loading.Loading.{Loading}
use Rattle.ecx_index.specs.Search.{HasRisingIds, entries_in}

-- the file stands, and is whole entries, by rising id, of contents
abbrev pub IsIndexFile : Option File → Type 0
IsIndexFile None = ⊥
IsIndexFile (Some file) = IsSortedIndex file.bytes

-- The file is an index, and the map is that of its entries, each under its id.
pub record IsLoaded (file : Option File) (index : FinMap nat_cmp Entry) : Type 0 where
  pub sorted : IsIndexFile file
  pub entries : index ≡ map_of (entries_in file)

-- a rule is the fifth of the volume, and a fault one of the server
abbrev pub Blames : ℕ → ℕ → OpenFault → Type 0
Blames server v (Unsound volume rule) = (volume ≡ v) × (rule ≡ 5)
Blames server v (Fault blamed) = blamed ≡ server
Blames server v Memory = Unit {0}

-- ---- entries, one after the other

-- their ids rise, and they are of contents
pub record AreSorted (es : List Entry) : Type 0 where
  pub rising : HasRisingIds es
  pub sizes : AllByRecursion (λ e. pos 0 <ℤ e.size) es

-- the id of the last one, where there is one
abbrev pub IsLast : List Entry → Option ℕ → Type 0
IsLast es None = es ≡ []
IsLast es (Some id) = (front : List Entry) × (e : Entry) × (es ≡ front ++ e ∷ []) × (e.id ≡ id)

abbrev pub IsAbove : Option ℕ → ℕ → Type 0
IsAbove None id = Unit {0}
IsAbove (Some last) id = last < id

-- These entries were taken, and they are sorted.
pub record HasTaken (es : List Entry) (loading : Loading) : Type 0 where
  pub sorted : AreSorted es
  pub last : IsLast es loading.last
  pub index : loading.index ≡ map_of es

-- entries behind any that were taken are taken too
abbrev pub Takes : List Entry → Loading → Loading → Type 0
Takes more old new = (es : List Entry) → HasTaken es old → HasTaken (es ++ more) new

-- whatever follows, these entries aren't sorted behind any that were taken
abbrev pub AreRefused : List Entry → Loading → Type 0
AreRefused more loading = (es rest : List Entry) → HasTaken es loading → ¬ AreSorted (es ++ (more ++ rest))

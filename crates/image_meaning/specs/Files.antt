-- The files of one volume. What an image says of a volume is said of these alone.
use Rattle.std.specs.Prelude.{◌≡◌, ℕ, zero, suc, Bool, false, true, is_some, if◌then◌else◌, ◌&&◌, List, [], Option, Some, None, filter, unwrap_or}
use Rattle.std.specs.List.{list_any, range_with_len}
use Rattle.site_model.specs.Counts.{max_servers}
use Rattle.site_model.specs.Disk.{Files, Image}
use Rattle.site_model.specs.Disk as disk
use Rattle.file_names.specs.declared.Kind.{Kind}
use Rattle.file_names.specs.declared.Kind.TheVariants.{Shard, Dat, Idx, Cpd, Cpx}
use Rattle.file_names.specs.Names.{max_shards, place_of}

-- what stands on a site
abbrev pub contents : Files → Image
contents files place = disk.standing (files place)

-- by server and kind
abbrev pub VolumeFiles : Type 0
VolumeFiles = ℕ → Kind → Option (List ℕ)

-- the files of the volume
abbrev pub files_of : Image → ℕ → VolumeFiles
files_of image v server kind = image (place_of v server kind false)

-- its temporary files
abbrev pub temps_of : Image → ℕ → VolumeFiles
temps_of image v server kind = image (place_of v server kind true)

-- without those of the lost servers
abbrev pub lose_files : VolumeFiles → (ℕ → Bool) → VolumeFiles
lose_files files lost server kind = if lost server then None else files server kind

-- the images have the same files of the volume
abbrev pub SameVolume : ℕ → Image → Image → Type 0
SameVolume v a b = (server : ℕ) (kind : Kind) → files_of a v server kind ≡ files_of b v server kind

-- ---- servers

-- the first of n servers from this one on that passes
unfoldable pub first_from : ℕ → ℕ → (ℕ → Bool) → Option ℕ
first_from zero server test = None
first_from (suc n) server test = if test server then Some server else first_from n (suc server) test

-- the lowest server that passes
unfoldable pub lowest : (ℕ → Bool) → Option ℕ
lowest test = first_from max_servers 0 test

abbrev pub all_servers : List ℕ
all_servers = range_with_len 0 max_servers

-- ---- which files stand

abbrev pub stands : VolumeFiles → ℕ → Kind → Bool
stands files server kind = is_some (files server kind)

-- an absent file counts as one without bytes
abbrev pub bytes_at : VolumeFiles → ℕ → Kind → List ℕ
bytes_at files server kind = unwrap_or (files server kind) []

-- the index of a server: what a vacuum made, where it stands
unfoldable pub index_at : VolumeFiles → ℕ → Option (List ℕ)
index_at files server = if stands files server Cpx then files server Cpx else files server Idx

-- the data file of that index: until it is renamed it is beside an index that a vacuum made
unfoldable pub dat_at : VolumeFiles → ℕ → Option (List ℕ)
dat_at files server = if stands files server Cpx && stands files server Cpd then files server Cpd else files server Dat

-- an index holder
abbrev pub has_index : VolumeFiles → ℕ → Bool
has_index files server = is_some (index_at files server)

abbrev pub index_bytes : VolumeFiles → ℕ → List ℕ
index_bytes files server = unwrap_or (index_at files server) []

abbrev pub dat_bytes : VolumeFiles → ℕ → List ℕ
dat_bytes files server = unwrap_or (dat_at files server) []

abbrev pub all_shards : List ℕ
all_shards = range_with_len 0 max_shards

-- a server with a shard of the volume
unfoldable pub is_holder : VolumeFiles → ℕ → Bool
is_holder files server = list_any (λ i. stands files server (Shard i)) all_shards

-- the lowest server that has the shard
abbrev pub shard_home : VolumeFiles → ℕ → Option ℕ
shard_home files i = lowest (λ server. stands files server (Shard i))

-- the shards that stand at some server
unfoldable pub standing : VolumeFiles → List ℕ
standing files = filter (λ i. is_some (shard_home files i)) all_shards

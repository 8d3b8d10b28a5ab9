-- The bytes that a plan gives to each of its files.
use Rattle.std.specs.Prelude.{ℕ, ◌==◌, ◌&&◌, Bool, true, false, if◌then◌else◌, List, ◌++◌, map, flat_map, slice_get, Option, Some, None, option_map}
use Rattle.std.specs.List.{list_any}
use Rattle.wire_num.specs.Pairs.{journal_bytes}
use Rattle.world_model.specs.declared.types.Command.{Command}
use Rattle.world_model.specs.declared.types.Command.TheVariants.{Encode, Rebuild, Balance, Decode}
use Rattle.file_names.specs.declared.Kind.{Kind}
use Rattle.file_names.specs.declared.Kind.TheVariants.{Dat, Idx, Cpd, Cpx, Shard, Ecx, Ecj, Vif}
use Rattle.volume_forms.specs.Forms.{entry_bytes}
use Rattle.stripe_layout.specs.Information.{info_text}
use Rattle.needle_record.specs.Spelling.{canonical}
use Rattle.needle_record.specs.Records.{records, entry_of}
use Rattle.site_model.specs.Disk.{File, firm_file}
use Rattle.image_meaning.specs.Share.{Share}
use Rattle.image_meaning.specs.Parts.{Parts}
use Rattle.plan_steps.specs.declared.plan.Plan.{Plan}

-- the deletions of these ids, with cookie and time 0
abbrev pub deletions : List ℕ → List ℕ
deletions ids = flat_map (λ id. canonical (record { cookie = 0; id = id; content = None; appended = 0 })) ids

-- the data file that a decode makes: that of the shards, with the deletions behind it
abbrev pub joined : Parts → List ℕ
joined t = t.dat ++ deletions t.deleted

-- and its index
abbrev pub joined_index : Parts → List ℕ
joined_index t = flat_map entry_bytes (map entry_of (records (joined t)))

-- what a file of this kind holds once it is written; of a shard with a number that the ratio doesn't have, and of what
-- a vacuum makes, nothing
abbrev pub planned : Parts → Kind → Option (List ℕ)
planned t Dat = Some (joined t)
planned t Idx = Some (joined_index t)
planned t Cpd = None
planned t Cpx = None
planned t (Shard i) = slice_get t.shards i
planned t Ecx = Some t.index
planned t Ecj = Some (journal_bytes t.deleted)
planned t Vif = Some (info_text t.info)

-- a shard stood at the server when the plan began
abbrev pub held : Plan → ℕ → Bool
held plan server = list_any (λ p. p.1 == server) plan.places.items

abbrev pub is_at : ℕ → ℕ → ℕ × ℕ → Bool
is_at i server p = (p.0 == i) && (p.1 == server)

-- this shard did
abbrev pub placed : Plan → ℕ → ℕ → Bool
placed plan i server = list_any (is_at i server) plan.places.items

-- the files of the coded form that the plan found
abbrev pub is_found_coded : Plan → ℕ → Kind → Bool
is_found_coded plan server Dat = false
is_found_coded plan server Idx = false
is_found_coded plan server Cpd = false
is_found_coded plan server Cpx = false
is_found_coded plan server (Shard i) = placed plan i server
is_found_coded plan server Ecx = held plan server
is_found_coded plan server Ecj = held plan server
is_found_coded plan server Vif = held plan server

abbrev pub is_found_plain : Plan → ℕ → Kind → Bool
is_found_plain plan server Dat = plan.home == server
is_found_plain plan server Idx = plan.home == server
is_found_plain plan server Cpd = false
is_found_plain plan server Cpx = false
is_found_plain plan server (Shard i) = false
is_found_plain plan server Ecx = false
is_found_plain plan server Ecj = false
is_found_plain plan server Vif = false

-- the plan found the file at its start
abbrev pub is_found : Plan → Command → ℕ → Kind → Bool
is_found plan (Encode ratio) server kind = is_found_plain plan server kind
is_found plan Rebuild server kind = is_found_coded plan server kind
is_found plan Balance server kind = is_found_coded plan server kind
is_found plan Decode server kind = is_found_coded plan server kind

-- ---- which command

abbrev pub is_encode : Command → Bool
is_encode (Encode ratio) = true
is_encode Rebuild = false
is_encode Balance = false
is_encode Decode = false

abbrev pub is_decode : Command → Bool
is_decode (Encode ratio) = false
is_decode Rebuild = false
is_decode Balance = false
is_decode Decode = true

-- The file under its final name once it is registered: one that was found is as it was, firm or not, and another one as
-- planned, and firm.
abbrev pub given : Plan → Parts → Share → ℕ → Kind → Option File
given plan t start server kind = if is_found plan plan.command server kind then start server kind false else option_map firm_file (planned t kind)

-- What is written for a reply.
use Rattle.std.specs.Prelude.{ℕ, ◌==◌, if◌then◌else◌, List, [], ◌∷◌, ◌++◌, flat_map, codes, decimal, Option}
use Rattle.std.specs.Option.{option_map_or}
use Rattle.hex.specs.Hex.{encode_lower}
use Rattle.wire_num.specs.Numbers.{bytes_of}
use Rattle.world_model.specs.declared.types.Content.{Content}
use Rattle.world_model.specs.declared.types.Mode.{Mode}
use Rattle.world_model.specs.declared.types.Mode.TheVariants as mode
use Rattle.world_model.specs.declared.types.What.{What}
use Rattle.world_model.specs.declared.types.What.TheVariants as what
use Rattle.world_model.specs.declared.types.Refusal.{Refusal}
use Rattle.world_model.specs.declared.types.Refusal.TheVariants as refusal
use Rattle.world_model.specs.declared.types.Reply.{Reply}
use Rattle.world_model.specs.declared.types.Reply.TheVariants as reply

abbrev pub mode_text : Mode → List ℕ
mode_text mode.Plain = codes "plain"
mode_text mode.Sealed = codes "sealed"
mode_text mode.Coded = codes "coded"
mode_text mode.Lost = codes "lost"

abbrev pub what_text : What → List ℕ
what_text what.End = codes "end"
what_text what.Id = codes "id"
what_text what.Size = codes "size"
what_text what.Body = codes "body"
what_text what.Checksum = codes "checksum"
what_text what.Empty = codes "empty"
what_text what.Large = codes "large"

-- number and word
abbrev pub refusal_text : Refusal → List ℕ
refusal_text refusal.NoJob = codes "17 no job"
refusal_text refusal.NoServer = codes "4 no server"
refusal_text refusal.NoVolume = codes "2 no volume"
refusal_text refusal.Exists = codes "3 exists"
refusal_text refusal.Lost = codes "10 lost"
refusal_text (refusal.Busy job) = codes "11 busy " ++ decimal job
refusal_text refusal.Coded = codes "8 coded"
refusal_text refusal.Plain = codes "9 plain"
refusal_text refusal.ReadOnly = codes "7 read only"
refusal_text refusal.Empty = codes "13 empty"
refusal_text refusal.TooLarge = codes "14 too large"
refusal_text refusal.Full = codes "12 full"
refusal_text (refusal.Fault server) = codes "15 fault " ++ decimal server
refusal_text (refusal.Damaged w a b) = codes "16 damaged " ++ what_text w ++ codes " " ++ decimal a ++ codes " " ++ decimal b
refusal_text refusal.NotFound = codes "5 not found"
refusal_text refusal.Cookie = codes "6 cookie"

-- a part of a needle, where it stands
abbrev pub part_text : {A : Type 0} → List ℕ → (A → List ℕ) → Option A → List ℕ
part_text key value part = option_map_or (λ x. codes " " ++ key ++ value x) part []

-- the flags, where any stands
abbrev pub flags_text : ℕ → List ℕ
flags_text flags = if flags == 0 then [] else codes " flags=" ++ encode_lower (flags ∷ [])

-- the parts of a needle but its data
abbrev pub parts_text : Content → List ℕ
parts_text c =
    flags_text c.flags
    ++ part_text (codes "name=") encode_lower c.name
    ++ part_text (codes "mime=") encode_lower c.mime
    ++ part_text (codes "modified=") decimal c.modified
    ++ part_text (codes "ttl=") (λ n. encode_lower (bytes_of 2 n)) c.ttl
    ++ part_text (codes "pairs=") encode_lower c.pairs

abbrev pub content_text : Content → List ℕ
content_text c = encode_lower c.bytes ++ parts_text c

abbrev pub row_text : ℕ × Mode × ℕ → List ℕ
row_text row = codes " " ++ decimal row.0 ++ codes " " ++ mode_text row.1 ++ codes " " ++ decimal row.2

-- the reply without its line end
abbrev pub reply_text : Reply → List ℕ
reply_text reply.Done = codes "OK"
reply_text (reply.Found c) = codes "OK " ++ content_text c
reply_text (reply.Listed rows) = codes "OK" ++ flat_map row_text rows
reply_text (reply.Started job) = codes "OK job " ++ decimal job
reply_text (reply.Running job) = codes "OK job " ++ decimal job ++ codes " running"
reply_text (reply.Ended job) = codes "OK job " ++ decimal job ++ codes " done"
reply_text reply.Long = codes "ERR 18 long"
reply_text reply.Syntax = codes "ERR 1 syntax"
reply_text (reply.Refused why) = codes "ERR " ++ refusal_text why

-- the same behind the data of a needle, with which the text of what was found begins
abbrev pub text_behind_data : Reply → List ℕ
text_behind_data (reply.Found c) = parts_text c
text_behind_data r = reply_text r

-- what is written for a reply
unfoldable pub text_of : Reply → List ℕ
text_of r = reply_text r ++ 10 ∷ []

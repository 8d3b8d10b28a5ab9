-- What the readers of the code answer, as what the bytes give.
use Rattle.std.specs.Prelude.{◌≡◌, ℕ, List, Result, Ok, Err}
use Rattle.world_model.specs.declared.types.Content.{Content}
use Rattle.needle_record.specs.declared.NeedleFault.{NeedleFault}
use Rattle.needle_record.specs.declared.NeedleFault.TheVariants as fault
use Rattle.needle_record.specs.declared.fields.Stop.{Stop}
use Rattle.needle_record.specs.declared.fields.Stop.TheVariants as stop
use Rattle.needle_record.specs.declared.fields.Parts.{Parts}

-- the content of these data and parts
abbrev pub content_of : List ℕ → Parts → Content
content_of bytes parts = record { bytes = bytes; flags = parts.flags; name = parts.name; mime = parts.mime; modified = parts.modified; ttl = parts.ttl; pairs = parts.pairs }

-- The answer is what was read, unless memory ran out.
abbrev pub Gives : {X : Type 0} → Result X NeedleFault → Result X NeedleFault → Type 0
Gives (Ok x) read = read ≡ Ok x
Gives (Err fault.Memory) read = Unit {0}
Gives (Err why) read = read ≡ Err why

abbrev pub seen : {X Y E : Type 0} → (X → Y) → Result X E → Result Y E
seen view (Ok x) = Ok (view x)
seen view (Err why) = Err why

-- The same of an answer whose value is seen by the view.
abbrev pub GivesBy : {X Y : Type 0} → (X → Y) → Result X NeedleFault → Result Y NeedleFault → Type 0
GivesBy view answer read = Gives (seen view answer) read

-- The same of a field, whose value is seen by the view.
abbrev pub GivesField : {X Y : Type 0} → (X → Y) → Result X Stop → Result Y ℕ → Type 0
GivesField view (Ok x) read = read ≡ Ok (view x)
GivesField view (Err (stop.Past excess)) read = read ≡ Err excess
GivesField view (Err stop.Memory) read = Unit {0}

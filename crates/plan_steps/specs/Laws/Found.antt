-- What a plan found, by its command.
use Rattle.std.proofs.Common.{◌≡◌, ℕ, true, false, refl, sym}
use Rattle.std.proofs.lemmas.Bool.{false≢true}
use Rattle.world_model.specs.declared.types.Command.{Command}
use Rattle.world_model.specs.declared.types.Command.TheVariants.{Encode, Rebuild, Balance, Decode}
use Rattle.file_names.specs.declared.Kind.{Kind}
use Rattle.file_names.specs.declared.Kind.TheVariants.{Ecx, Ecj, Vif}
use Rattle.plan_steps.specs.declared.plan.Plan.{Plan}
use Rattle.plan_steps.specs.Planned.{is_encode, is_decode, is_found, is_found_plain, is_found_coded}

-- an encode found the files of the plain volume
encode_by : (plan : Plan) (c : Command) (server : ℕ) (kind : Kind) → is_encode c ≡ true → is_found plan c server kind ≡ is_found_plain plan server kind
encode_by plan (Encode ratio) server kind e = refl
encode_by plan Rebuild server kind e = absurd (false≢true e)
encode_by plan Balance server kind e = absurd (false≢true e)
encode_by plan Decode server kind e = absurd (false≢true e)

pub encode_finds : (plan : Plan) (server : ℕ) (kind : Kind) → is_encode plan.command ≡ true → is_found plan plan.command server kind ≡ is_found_plain plan server kind
encode_finds plan server kind e = encode_by plan plan.command server kind e

-- any other command the files of the coded one
coded_by : (plan : Plan) (c : Command) (server : ℕ) (kind : Kind) → is_encode c ≡ false → is_found plan c server kind ≡ is_found_coded plan server kind
coded_by plan (Encode ratio) server kind e = absurd (false≢true (sym e))
coded_by plan Rebuild server kind e = refl
coded_by plan Balance server kind e = refl
coded_by plan Decode server kind e = refl

pub coded_finds : (plan : Plan) (server : ℕ) (kind : Kind) → is_encode plan.command ≡ false → is_found plan plan.command server kind ≡ is_found_coded plan server kind
coded_finds plan server kind e = coded_by plan plan.command server kind e

-- the three files beside shards were found together
pub found_index : (plan : Plan) (c : Command) (server : ℕ) → is_found plan c server Ecx ≡ is_found plan c server Vif
found_index plan (Encode ratio) server = refl
found_index plan Rebuild server = refl
found_index plan Balance server = refl
found_index plan Decode server = refl

pub found_journal : (plan : Plan) (c : Command) (server : ℕ) → is_found plan c server Ecj ≡ is_found plan c server Vif
found_journal plan (Encode ratio) server = refl
found_journal plan Rebuild server = refl
found_journal plan Balance server = refl
found_journal plan Decode server = refl

-- the command by its test
pub decode_is : (c : Command) → is_decode c ≡ true → c ≡ Decode
decode_is (Encode ratio) e = absurd (false≢true e)
decode_is Rebuild e = absurd (false≢true e)
decode_is Balance e = absurd (false≢true e)
decode_is Decode e = refl

-- What stands at a plan's end, as the store asks for it. For the store with jobs, to come.
use Rattle.std.proofs.Common.{◌≡◌, inl, inr, ℕ, true, refl, ap, subst}
use Rattle.world_model.specs.declared.types.Command.{Command}
use Rattle.world_model.specs.declared.types.Command.TheVariants.{Encode, Rebuild, Balance, Decode}
use Rattle.world_model.specs.declared.types.Ratio.{Ratio}
use Rattle.needle_record.specs.Records.{records}
use Rattle.image_meaning.specs.Plain.{IsExact}
use Rattle.image_meaning.specs.Share.{Share, finals}
use Rattle.image_meaning.specs.Shards.{EndsShards}
use Rattle.shard_table.specs.Table.{Row}
use Rattle.plan_steps.specs.Planned.{is_encode, joined, joined_index}
use Rattle.plan_steps.specs.Plans.{missing_of, AreFilled, IsPlan, IsPlanBy, IsEncodePlan, IsMendPlan}
use Rattle.plan_steps.specs.Progressing.{Running, Follows}
use Rattle.plan_steps.specs.Laws.End.{IsOver, end_temps}
use Rattle.plan_steps.specs.DecodeEnd.{decode_alone, decode_exact, decode_super, decode_joins, decode_row}
use Rattle.plan_steps.specs.EncodeEnd.{encode_coded, encode_tidy, encode_whole, encode_even, encode_row}
use Rattle.plan_steps.specs.MendList.{Fills, rebuild_fills, balance_fills}
use Rattle.plan_steps.specs.MendEnd.{IsMending, mend_coded, mend_tidy, mend_row, rebuild_shards, balance_shards}
use Rattle.plan_steps.specs.Ending.{EndsPlain, EndsToldCoded, EndsBy}
use Rattle.plan_contract.specs.Following.{told, made_records}

module _ (r : Running) (row : Row) (start now : Share) (follows : Follows r row start now) (over : IsOver r) where
  -- a decode: a plain volume of the records that it makes
  pub ends_decode : r.plan.command ≡ Decode → EndsPlain r.plan.home (made_records r.plan start) row now
  ends_decode decode = record {
    dat = joined follows.f.parts;
    idx = joined_index follows.f.parts;
    alone = decode_alone follows.w follows.f r row start now follows.fits over decode;
    exact = subst (IsExact (joined follows.f.parts) (joined_index follows.f.parts)) (ap records (decode_joins follows.w follows.f r row start now follows.fits over decode))
        (decode_exact follows.w follows.f r row start now follows.fits over decode);
    super = decode_super follows.w follows.f r row start now follows.fits over decode;
    no_temps = end_temps follows.w follows.f r row start now follows.fits over;
    places = decode_row follows.w follows.f r row start now follows.fits over decode;
  }

  -- an encode: a coded volume of which the plan tells, whole and even
  module _ (servers : ℕ) (plan : IsPlan r.plan servers) (ratio : Ratio) (encode : r.plan.command ≡ Encode ratio) where
    is_encoding : is_encode r.plan.command ≡ true
    is_encoding = ap is_encode encode

    made : IsEncodePlan servers r.plan
    made = (subst (IsPlanBy servers r.plan) encode plan.made).0

    pub ends_encode : EndsToldCoded (Encode ratio) (told r.plan) servers row start now
    ends_encode = record {
      parts = follows.f.parts;
      info = follows.fits.begins.tells.info;
      deleted = follows.fits.begins.tells.deleted;
      ends = record {
        sound = follows.fits.forms.parts;
        form = (encode_coded follows.w follows.f r row start now follows.fits over is_encoding servers made plan.some_server plan.few_servers).form;
        holds = (encode_coded follows.w follows.f r row start now follows.fits over is_encoding servers made plan.some_server plan.few_servers).holds;
        tidy = encode_tidy follows.w follows.f r row start now follows.fits over is_encoding servers made plan.some_server plan.few_servers;
        no_temps = end_temps follows.w follows.f r row start now follows.fits over;
        places = encode_row follows.w follows.f r row start now follows.fits over is_encoding servers made plan.some_server plan.few_servers;
        shards = (
          encode_whole follows.w follows.f r row start now follows.fits over is_encoding servers made plan.some_server plan.few_servers,
          encode_even follows.w follows.f r row start now follows.fits over is_encoding servers made plan.some_server plan.few_servers,
        );
      };
    }

  -- a rebuild or a balance: a coded volume of which the plan tells, even, of which no shard is lost
  module _ (servers : ℕ) (plan : IsPlan r.plan servers) (mends : IsMending r.plan.command) (mend : IsMendPlan servers r.plan) (fills : Fills servers r.plan mend.row) where
    ends_mended : (command : Command) → EndsShards command (finals start) (finals now) servers → EndsToldCoded command (told r.plan) servers row start now
    ends_mended command shards = record {
      parts = follows.f.parts;
      info = follows.fits.begins.tells.info;
      deleted = follows.fits.begins.tells.deleted;
      ends = record {
        sound = follows.fits.forms.parts;
        form = (mend_coded follows.w follows.f r row start now follows.fits over mends servers plan.few_servers mend.row mend.placed fills mend.moves).form;
        holds = (mend_coded follows.w follows.f r row start now follows.fits over mends servers plan.few_servers mend.row mend.placed fills mend.moves).holds;
        tidy = mend_tidy follows.w follows.f r row start now follows.fits over mends servers plan.few_servers mend.row mend.placed fills mend.moves;
        no_temps = end_temps follows.w follows.f r row start now follows.fits over;
        places = mend_row follows.w follows.f r row start now follows.fits over mends servers plan.few_servers mend.row mend.placed fills mend.moves;
        shards = shards;
      };
    }

  -- with all shards after a rebuild
  pub ends_rebuild : (servers : ℕ) → IsPlan r.plan servers → r.plan.command ≡ Rebuild → EndsToldCoded Rebuild (told r.plan) servers row start now
  ends_rebuild servers plan rebuild = by_plan (subst (IsPlanBy servers r.plan) rebuild plan.made)
    where
      by_plan : (is : IsMendPlan servers r.plan) × AreFilled servers is.row (missing_of r.plan.info.geometry is.row) r.plan.targets.items → EndsToldCoded Rebuild (told r.plan) servers row start now
      by_plan (mend, filled) =
          let fills : Fills servers r.plan mend.row = rebuild_fills r.plan servers mend.row mend.placed filled in
          ends_mended servers plan (inl rebuild) mend fills Rebuild
          (rebuild_shards follows.w follows.f r row start now follows.fits over (inl rebuild) servers plan.few_servers mend.row mend.placed fills mend.moves filled)

  pub ends_balance : (servers : ℕ) → IsPlan r.plan servers → r.plan.command ≡ Balance → EndsToldCoded Balance (told r.plan) servers row start now
  ends_balance servers plan balance =
      let made = subst (IsPlanBy servers r.plan) balance plan.made in
      let fills : Fills servers r.plan made.0.row = balance_fills r.plan servers made.0.row made.0.placed made.1 in
      ends_mended servers plan (inr balance) made.0 fills Balance
      (balance_shards follows.w follows.f r row start now follows.fits over (inr balance) servers plan.few_servers made.0.row made.0.placed fills made.0.moves)

  -- whatever the command
  pub ends_told : (servers : ℕ) → IsPlan r.plan servers → EndsBy r.plan.command (told r.plan) (made_records r.plan start) servers row start now
  ends_told servers plan = by_command r.plan.command refl
    where
      by_command : (command : Command) → r.plan.command ≡ command → EndsBy command (told r.plan) (made_records r.plan start) servers row start now
      by_command (Encode ratio) e = ends_encode servers plan ratio e
      by_command Rebuild e = ends_rebuild servers plan e
      by_command Balance e = ends_balance servers plan e
      by_command Decode e = ends_decode e

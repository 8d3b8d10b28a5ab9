-- Where the shards of a volume are of one code.
use Rattle.std.proofs.Common.{◌≡◌, ◌<◌, Some, sym, subst}
use Rattle.image_meaning.specs.Files.{VolumeFiles}
use Rattle.image_meaning.specs.Coded.{volume_info}
use Rattle.image_meaning.specs.Sound.{HasStripes}
use Rattle.image_meaning.specs.Laws.CodedLoss.{length-dat_of}
use Rattle.stripe_layout.specs.declared.Info.{Info}
use Rattle.stripe_layout.specs.Stripes.{shard_length}
use Rattle.degraded_read.specs.Reading.{AreOneCode}

-- where the striped shards of a volume stand, they are of one code
pub code_of_stripes : (files : VolumeFiles) (info : Info) → volume_info files ≡ Some info → HasStripes files info
    → AreOneCode info.geometry.ratio files (shard_length info.geometry info.dat_size)
code_of_stripes files info e stripes = record {
  shards = stripes.shards;
  stand = record { each = stripes.each };
  columns = λ p h.
      stripes.striped.columns p (subst (λ n. p < shard_length info.geometry n) (sym (length-dat_of files info e)) h);
}

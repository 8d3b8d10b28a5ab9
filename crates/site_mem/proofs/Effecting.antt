-- What is carried out, begun or given up has the effect of its call.
use Rattle.std.proofs.Common.{inl, inr, ◌++◌, length, Option, Some, None, refl, sym, ◌∙◌, ap, subst, arith}
use Rattle.std.proofs.lemmas.List.{append-nil, take_all}
use Rattle.site_model.specs.Disk.{File, Place, Disk, HasFirmFront, IsFirmer, synced, appends, syncs, cuts, renames, removes, says}
use Rattle.site_mem.specs.Events.{Event, added, told, called, done, begun, put_file}
use Rattle.site_mem.specs.Effects.{Effect, IsDone}
use Rattle.site_mem.proofs.Places.{put_here, put_else}

-- a synced file is no less firm
firmer : (file : Option File) → HasFirmFront file → IsFirmer file (synced file)
firmer None front = tt
firmer (Some file) front = (refl, front, omega arith, (λ on. refl))

pub effect_done : (event : Event) (d : Disk) → ((k : Place) → HasFirmFront (d.files k)) → Effect event d (done event d)
effect_done (added p bytes) d front = tt
effect_done (told bytes) d front = tt
effect_done (called (appends p bytes)) d front = record {
  past = inl refl;
  said = refl;
  others = λ k other. put_else p k _ d.files other;
  partly = inr (bytes, omega arith, put_here p _ d.files);
}
effect_done (called (syncs p)) d front = record {
  past = inl refl;
  said = refl;
  others = λ k other. put_else p k _ d.files other;
  partly = inr (subst (λ f. IsFirmer (d.files p) f) (sym (put_here p (synced (d.files p)) d.files)) (firmer (d.files p) (front p)));
}
effect_done (called (cuts p n)) d front = record {
  past = inl refl;
  said = refl;
  others = λ k other. put_else p k _ d.files other;
  either = inr (put_here p _ d.files);
}
effect_done (called (renames p q)) d front = record {
  past = inl refl;
  said = refl;
  others = λ k other another. put_else q k (d.files p) (put_file p None d.files) another ∙ put_else p k None d.files other;
  either = inr (record {
    there = put_here q (d.files p) (put_file p None d.files);
    gone = λ ne. put_else q p (d.files p) (put_file p None d.files) ne ∙ put_here p None d.files;
  });
}
effect_done (called (removes p)) d front = record {
  past = inl refl;
  said = refl;
  others = λ k other. put_else p k None d.files other;
  either = inr (put_here p None d.files);
}
effect_done (called (says bytes)) d front = record {
  past = inl refl;
  files = refl;
  partly = (length bytes, ap (λ l. d.said ++ l) (sym (take_all (length bytes) bytes (omega arith))));
}

pub effect_begun : (event : Event) (d : Disk) → Effect event d (begun event d)
effect_begun (added p bytes) d = tt
effect_begun (told bytes) d = tt
effect_begun (called (appends p bytes)) d = record { past = inl refl; said = refl; others = λ k other. refl; partly = inl refl }
effect_begun (called (syncs p)) d = record { past = inl refl; said = refl; others = λ k other. refl; partly = inl refl }
effect_begun (called (cuts p n)) d = record { past = inl refl; said = refl; others = λ k other. refl; either = inl refl }
effect_begun (called (renames p q)) d = record { past = inl refl; said = refl; others = λ k other another. refl; either = inl refl }
effect_begun (called (removes p)) d = record { past = inl refl; said = refl; others = λ k other. refl; either = inl refl }
effect_begun (called (says bytes)) d = record { past = inl refl; files = refl; partly = (0, sym (append-nil d.said)) }

pub effect_none : (event : Event) (d : Disk) → Effect event d d
effect_none (added p bytes) d = tt
effect_none (told bytes) d = tt
effect_none (called (appends p bytes)) d = record { past = inr refl; said = refl; others = λ k other. refl; partly = inl refl }
effect_none (called (syncs p)) d = record { past = inr refl; said = refl; others = λ k other. refl; partly = inl refl }
effect_none (called (cuts p n)) d = record { past = inr refl; said = refl; others = λ k other. refl; either = inl refl }
effect_none (called (renames p q)) d = record { past = inr refl; said = refl; others = λ k other another. refl; either = inl refl }
effect_none (called (removes p)) d = record { past = inr refl; said = refl; others = λ k other. refl; either = inl refl }
effect_none (called (says bytes)) d = record { past = inr refl; files = refl; partly = (0, sym (append-nil d.said)) }

pub is_done : (event : Event) (d : Disk) → IsDone event d (done event d)
is_done (added p bytes) d = tt
is_done (told bytes) d = tt
is_done (called (appends p bytes)) d = put_here p _ d.files
is_done (called (syncs p)) d = put_here p _ d.files
is_done (called (cuts p n)) d = put_here p _ d.files
is_done (called (renames p q)) d = record {
  there = put_here q (d.files p) (put_file p None d.files);
  gone = λ ne. put_else q p (d.files p) (put_file p None d.files) ne ∙ put_here p None d.files;
}
is_done (called (removes p)) d = put_here p None d.files
is_done (called (says bytes)) d = refl

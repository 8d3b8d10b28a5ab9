-- Files of one volume stand at different places.
use Rattle.std.proofs.Common.{◌≡◌, ◌≢◌, ℕ, ◌<◌, Bool, true, false, sym, ap}
use Rattle.site_model.specs.Disk.{Place}
use Rattle.file_names.specs.declared.Kind.{Kind}
use Rattle.file_names.specs.declared.Kind.TheVariants.{Dat, Idx, Cpd, Cpx, Shard, Ecx, Ecj, Vif}
use Rattle.file_names.specs.declared.FileName.{FileName}
use Rattle.file_names.specs.Names.{IsKind, IsPlainKind, place_of}
use Rattle.file_names.specs.Laws.Name.{same_name}
use Rattle.image_meaning.specs.Meaning.{max_volumes}

-- a place tells the kind, and whether the file is temporary
pub place_tells : (v s t : ℕ) (a b : Kind) (x y : Bool) → v < max_volumes → IsKind a → IsKind b → place_of v s a x ≡ place_of v t b y → (a ≡ b) × (x ≡ y)
place_tells v s t a b x y small is_a is_b e =
    let f : FileName = record { volume = v; kind = a; temp = x } in
    let g : FileName = record { volume = v; kind = b; temp = y } in
    let one : f ≡ g = same_name f g (record { volume = small; kind = is_a }) (record { volume = small; kind = is_b }) (ap (λ (q : Place). q.1) e) in
    (ap (λ (n : FileName). n.kind) one, ap (λ (n : FileName). n.temp) one)

pub kinds_apart : (v s t : ℕ) (a b : Kind) (x y : Bool) → v < max_volumes → IsKind a → IsKind b → a ≢ b → place_of v s a x ≢ place_of v t b y
kinds_apart v s t a b x y small is_a is_b other e = other (place_tells v s t a b x y small is_a is_b e).0

pub temp_apart : (v s t : ℕ) (a b : Kind) → v < max_volumes → IsKind a → IsKind b → place_of v s a false ≢ place_of v t b true
temp_apart v s t a b small is_a is_b e = let marks : ◌≡◌ {A = Bool} false true = (place_tells v s t a b false true small is_a is_b e).1 in absurd cc

pub servers_apart : (v s t : ℕ) (a b : Kind) (x y : Bool) → s ≢ t → place_of v s a x ≢ place_of v t b y
servers_apart v s t a b x y other e = other (ap (λ (q : Place). q.0) e)

pub dat_idx : Dat ≢ Idx
dat_idx e = cc

pub dat_cpd : Dat ≢ Cpd
dat_cpd e = cc

pub dat_cpx : Dat ≢ Cpx
dat_cpx e = cc

pub idx_cpd : Idx ≢ Cpd
idx_cpd e = cc

pub idx_cpx : Idx ≢ Cpx
idx_cpx e = cc

pub cpd_cpx : Cpd ≢ Cpx
cpd_cpx e = cc

pub turned : {A : Type 0} {a b : A} → a ≢ b → b ≢ a
turned other e = other (sym e)

pub plain_kind : (kind : Kind) → IsPlainKind kind → IsKind kind
plain_kind Dat is = tt
plain_kind Idx is = tt
plain_kind Cpd is = tt
plain_kind Cpx is = tt
plain_kind (Shard i) is = absurd is
plain_kind Ecx is = absurd is
plain_kind Ecj is = absurd is
plain_kind Vif is = absurd is

-- The names of a volume's two files and of those by which they are made differ.
use Rattle.std.proofs.Common.{◌≡◌, ◌≢◌, ℕ, ◌<◌, ◌^◌, Bool, true, false, List, refl, sym, ◌∙◌, ap}
use Rattle.site_model.specs.Disk.{Place}
use Rattle.file_names.specs.declared.Kind.{Kind}
use Rattle.file_names.specs.declared.Kind.TheVariants.{Dat, Idx}
use Rattle.file_names.specs.declared.FileName.{FileName}
use Rattle.file_names.specs.Names.{IsKind, name_bytes}
use Rattle.file_names.specs.Laws.Name.{same_name}
use Rattle.dat_volume.specs.NewFiles.{AreApart, of_volume}

-- those of an index and of a data file, whichever of them are temporary
pub index_apart : (volume : ℕ) (a b : Bool) → volume < 2 ^ 32 → (x y : List ℕ)
    → x ≡ name_bytes (record { volume = volume; kind = Idx; temp = a }) → y ≡ name_bytes (record { volume = volume; kind = Dat; temp = b }) → x ≢ y
index_apart volume a b small x y index dat same =
    let one : ◌≡◌ {A = FileName} (record { volume = volume; kind = Idx; temp = a }) (record { volume = volume; kind = Dat; temp = b }) =
    same_name _ _ (record { volume = small; kind = tt }) (record { volume = small; kind = tt }) (sym index ∙ same ∙ dat) in
    let kinds : ◌≡◌ {A = Kind} Idx Dat = ap (λ (n : FileName). n.kind) one in
    absurd cc

-- those of a file and of its temporary one
temp_apart : (volume : ℕ) (kind : Kind) → volume < 2 ^ 32 → IsKind kind
    → name_bytes (record { volume = volume; kind = kind; temp = false }) ≢ name_bytes (record { volume = volume; kind = kind; temp = true })
temp_apart volume kind small is same =
    let one : ◌≡◌ {A = FileName} (record { volume = volume; kind = kind; temp = false }) (record { volume = volume; kind = kind; temp = true }) =
    same_name _ _ (record { volume = small; kind = is }) (record { volume = small; kind = is }) same in
    let marks : ◌≡◌ {A = Bool} false true = ap (λ (n : FileName). n.temp) one in
    absurd cc

-- so no two of the four places are one
pub four_apart : (server v : ℕ) → v < 2 ^ 32 → AreApart (of_volume server v)
four_apart server v small = record {
  finals = λ e. index_of false false (sym e);
  temps = λ e. index_of true true (sym e);
  dat_own = λ e. temp_apart v Dat small tt (name e);
  dat_other = λ e. index_of true false (sym e);
  idx_own = λ e. temp_apart v Idx small tt (name e);
  idx_other = λ e. index_of false true e;
}
  where
    name : {a b : List ℕ} → ◌≡◌ {A = Place} (server, a) (server, b) → a ≡ b
    name e = ap (λ (p : Place). p.1) e

    index_of : (a b : Bool) → ◌≢◌ {A = Place} (server, name_bytes (record { volume = v; kind = Idx; temp = a })) (server, name_bytes (record { volume = v; kind = Dat; temp = b }))
    index_of a b e = index_apart v a b small _ _ refl refl (name e)

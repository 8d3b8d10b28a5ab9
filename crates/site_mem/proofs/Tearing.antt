-- What the tears of a site in memory leave is what a stop may leave.
use Rattle.std.proofs.Common.{◌≡◌, inr, ℕ, ◌+◌, ◌-◌, ◌/◌, ◌≤◌, Bool, true, false, cond, List, ◌++◌, length, take, replicate, Option, Some, None, refl, sym, ◌∙◌, ap, subst, arith, length-append, length-take}
use Rattle.std.proofs.lemmas.List.{take-take, take_all, length-take-le, length-replicate, take_at}
use Rattle.site_model.specs.Disk.{File, Place, Files, Image, Call, Disk, LeftOf, LeftIn, SaidIn, HasFirmFront, standing, grown, cut_to, appends, syncs, cuts, renames, removes, says}
use Rattle.site_model.specs.Leaves.{left_before}
use Rattle.site_mem.specs.declared.tear.Tear.{Tear}
use Rattle.site_mem.specs.declared.tear.Tear.TheVariants.{None as KeepsNone, All, Half, Fill}
use Rattle.site_mem.specs.Events.{put_file, files_called}
use Rattle.site_mem.specs.Calls.{Underway}
use Rattle.site_mem.specs.Torn.{torn, files_reached, said_reached, firm_of, IsTorn, IsLeftIn, IsLeftBy}
use Rattle.site_mem.proofs.Places.{put_here, put_else}

pub says_reached : (tear : Tear) (bytes : List ℕ) (files : Files) → files_reached tear (Some (says bytes)) files ≡ files
says_reached KeepsNone bytes files = refl
says_reached All bytes files = refl
says_reached Half bytes files = refl
says_reached (Fill value) bytes files = refl

-- what a tear leaves of a file, a stop may leave of it
pub torn_left : (tear : Tear) (file : Option File) → HasFirmFront file → LeftOf file (torn tear file)
torn_left tear None front = tt
torn_left KeepsNone (Some f) front = each f.is_named refl
  where
    each : (b : Bool) → f.is_named ≡ b → LeftOf (Some f) (cond b (Some (take f.firm f.bytes)) None)
    each true is = record {
      kept = take-take f.firm f.firm f.bytes (omega arith);
      no_shorter = omega (arith, length-take-le f.firm f.bytes front);
      no_longer = omega (arith, length-take-le f.firm f.bytes front, front);
    }
    each false is = is
torn_left All (Some f) front = record { kept = refl; no_shorter = front; no_longer = omega arith }
torn_left Half (Some f) front =
    let half = f.firm + (length f.bytes - f.firm) / 2 in
    let fits : half ≤ length f.bytes = omega (arith, front) in
    record {
      kept = take-take f.firm half f.bytes (omega arith);
      no_shorter = omega (arith, length-take-le half f.bytes fits);
      no_longer = omega (arith, length-take-le half f.bytes fits, fits);
    }
torn_left (Fill value) (Some f) front =
    let kept = take f.firm f.bytes in
    let filled = replicate (length f.bytes - f.firm) value in
    let long : length kept ≡ f.firm = length-take-le f.firm f.bytes front in
    let all : length (kept ++ filled) ≡ length f.bytes = omega (arith, length-append kept filled, length-replicate (length f.bytes - f.firm) value, long, front) in
    record {
      kept = take_at kept filled f.firm long;
      no_shorter = omega (arith, all, front);
      no_longer = omega (arith, all);
    }

pub stands_firm_of : (left : Option (List ℕ)) → standing (firm_of left) ≡ left
stands_firm_of None = refl
stands_firm_of (Some bytes) = refl

-- what a call that the stop found carried out made of the files
abbrev carried : Call → Files → Files
carried (appends p bytes) files = files_called (appends p bytes) files
carried (syncs p) files = files
carried (cuts p n) files = files_called (cuts p n) files
carried (renames p q) files = files_called (renames p q) files
carried (removes p) files = files_called (removes p) files
carried (says bytes) files = files

reached_all : (call : Call) (files : Files) → files_reached All (Some call) files ≡ carried call files
reached_all (appends p bytes) files = refl
reached_all (syncs p) files = refl
reached_all (cuts p n) files = refl
reached_all (renames p q) files = refl
reached_all (removes p) files = refl
reached_all (says bytes) files = refl

reached_half : (call : Call) (files : Files) → files_reached Half (Some call) files ≡ carried call files
reached_half (appends p bytes) files = refl
reached_half (syncs p) files = refl
reached_half (cuts p n) files = refl
reached_half (renames p q) files = refl
reached_half (removes p) files = refl
reached_half (says bytes) files = refl

reached_fill : (value : ℕ) (call : Call) (files : Files) → files_reached (Fill value) (Some call) files ≡ carried call files
reached_fill value (appends p bytes) files = refl
reached_fill value (syncs p) files = refl
reached_fill value (cuts p n) files = refl
reached_fill value (renames p q) files = refl
reached_fill value (removes p) files = refl
reached_fill value (says bytes) files = refl

grown_front : (file : Option File) (bytes : List ℕ) → HasFirmFront file → HasFirmFront (Some (grown file bytes))
grown_front None bytes front = omega arith
grown_front (Some f) bytes front = omega (arith, front, length-append f.bytes bytes)

cut_front : (file : Option File) (n : ℕ) → HasFirmFront file → HasFirmFront (cut_to n file)
cut_front None n front = tt
cut_front (Some f) n front = omega (arith, front, length-take n f.bytes)

-- What is torn after a call was carried out, a stop within it may leave.
module _ (tear : Tear) (files : Files) (image : Image) (front : (k : Place) → HasFirmFront (files k)) where
  -- where the call left a file
  at_file : (now : Files) (k : Place) (file : Option File) → ((q : Place) → image q ≡ torn tear (now q)) → now k ≡ file → HasFirmFront file → LeftOf file (image k)
  at_file now k file is same fits = subst (λ i. LeftOf file i) (sym (is k ∙ ap (λ f. torn tear f) same)) (torn_left tear file fits)

  carried_left : (call : Call) → ((k : Place) → image k ≡ torn tear (carried call files k)) → LeftIn call files image
  carried_left (appends p bytes) is = (
    (λ k other. at_file (carried (appends p bytes) files) k (files k) is (put_else p k (Some (grown (files p) bytes)) files other) (front k)),
    (Some (grown (files p) bytes), inr (bytes, omega arith, refl), at_file (carried (appends p bytes) files) p (Some (grown (files p) bytes)) is (put_here p (Some (grown (files p) bytes)) files) (grown_front (files p) bytes (front p))),
  )
  carried_left (syncs p) is = λ k. at_file files k (files k) is refl (front k)
  carried_left (cuts p n) is = (
    (λ k other. at_file (carried (cuts p n) files) k (files k) is (put_else p k (cut_to n (files p)) files other) (front k)),
    inr (at_file (carried (cuts p n) files) p (cut_to n (files p)) is (put_here p (cut_to n (files p)) files) (cut_front (files p) n (front p))),
  )
  carried_left (renames p q) is = inr (
    (λ k other another. at_file (carried (renames p q) files) k (files k) is (put_else q k (files p) (put_file p None files) another ∙ put_else p k None files other) (front k)),
    at_file (carried (renames p q) files) q (files p) is (put_here q (files p) (put_file p None files)) (front p),
    (λ ne. is p ∙ ap (λ f. torn tear f) (put_else q p (files p) (put_file p None files) ne ∙ put_here p None files)),
  )
  carried_left (removes p) is = (
    (λ k other. at_file (carried (removes p) files) k (files k) is (put_else p k None files other) (front k)),
    inr (is p ∙ ap (λ f. torn tear f) (put_here p None files)),
  )
  carried_left (says bytes) is = λ k. at_file files k (files k) is refl (front k)

said_in : (tear : Tear) (call : Call) (said then : List ℕ) → then ≡ said_reached tear (Some call) said → SaidIn call said then
said_in tear (appends p bytes) said then is = is
said_in tear (syncs p) said then is = is
said_in tear (cuts p n) said then is = is
said_in tear (renames p q) said then is = is
said_in tear (removes p) said then is = is
said_in KeepsNone (says bytes) said then is = (0, is)
said_in All (says bytes) said then is = (length bytes, is ∙ ap (λ l. said ++ l) (sym (take_all (length bytes) bytes (omega arith))))
said_in Half (says bytes) said then is = (length bytes / 2, is)
said_in (Fill value) (says bytes) said then is = (length bytes, is ∙ ap (λ l. said ++ l) (sym (take_all (length bytes) bytes (omega arith))))

left_in : (tear : Tear) (call : Option Call) (files : Files) (said : List ℕ) (left : Disk) → ((k : Place) → standing (left.files k) ≡ torn tear (files_reached tear call files k)) → left.said ≡ said_reached tear call said
    → ((k : Place) → HasFirmFront (files k)) → IsLeftIn call files said left
left_in KeepsNone None files said left is spoken front = ((λ k. subst (λ i. LeftOf (files k) i) (sym (is k)) (torn_left KeepsNone (files k) (front k))), spoken)
left_in All None files said left is spoken front = ((λ k. subst (λ i. LeftOf (files k) i) (sym (is k)) (torn_left All (files k) (front k))), spoken)
left_in Half None files said left is spoken front = ((λ k. subst (λ i. LeftOf (files k) i) (sym (is k)) (torn_left Half (files k) (front k))), spoken)
left_in (Fill value) None files said left is spoken front = ((λ k. subst (λ i. LeftOf (files k) i) (sym (is k)) (torn_left (Fill value) (files k) (front k))), spoken)
left_in KeepsNone (Some call) files said left is spoken front =
    (left_before call files (λ k. standing (left.files k)) (λ k. subst (λ i. LeftOf (files k) i) (sym (is k)) (torn_left KeepsNone (files k) (front k))), said_in KeepsNone call said left.said spoken)
left_in All (Some call) files said left is spoken front =
    (carried_left All files (λ k. standing (left.files k)) front call (λ k. is k ∙ ap (λ (f : Files). torn All (f k)) (reached_all call files)), said_in All call said left.said spoken)
left_in Half (Some call) files said left is spoken front =
    (carried_left Half files (λ k. standing (left.files k)) front call (λ k. is k ∙ ap (λ (f : Files). torn Half (f k)) (reached_half call files)), said_in Half call said left.said spoken)
left_in (Fill value) (Some call) files said left is spoken front =
    (carried_left (Fill value) files (λ k. standing (left.files k)) front call (λ k. is k ∙ ap (λ (f : Files). torn (Fill value) (f k)) (reached_fill value call files)), said_in (Fill value) call said left.said spoken)

-- what the tear leaves, a stop within the call may leave
pub left_by : (tear : Tear) (under_way : Underway) (left : Disk) → IsTorn tear under_way left → ((k : Place) → HasFirmFront (under_way.files k)) → IsLeftBy under_way left
left_by tear under_way left is front =
    left_in tear under_way.call under_way.files under_way.said left
    (λ k. ap standing (is.files k) ∙ stands_firm_of (torn tear (files_reached tear under_way.call under_way.files k))) is.said front

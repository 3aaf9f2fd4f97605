-- The law of wider planes, over both formats.
use Rattle.std.proofs.Common.{◌≡◌, ℕ, suc, ◌-◌, ◌≤◌, List, sym, subst, arith}
use Rattle.life_base.specs.Text.{lines_of}
use Rattle.life_mc.proofs.WiderPlanes.{wider_planes_keep_files as macrocells_stay}
use Rattle.life_rle.proofs.WiderPlanes.{wider_planes_keep_files as rles_stay}
use Rattle.life_pattern.specs.Universe.{Universe, IsOnPlane}
use Rattle.life_pattern.specs.Files.{Says, as_macrocell, as_rle, Reads}
use Rattle.life_writer.specs.Laws.{WiderPlanesKeepFiles}
use Rattle.life_pattern.proofs.Formats.{reads-plane}
use Rattle.life_writer.proofs.TextLaws.{wider_plane_keeps_texts}

says-wider : (top wider : ℕ) (lines : List (List ℕ)) (u : Universe) → top ≤ wider → Says top lines u → Says wider lines u
says-wider top wider lines _ wide (as_macrocell file a) = as_macrocell file (macrocells_stay top wider lines file wide a)
says-wider top wider lines _ wide (as_rle file r) = as_rle file (rles_stay top wider lines file wide r)

on-plane : (top : ℕ) (bytes : List ℕ) (u : Universe) → 3 ≤ top → Reads top bytes u → IsOnPlane top u
on-plane top bytes u high r =
    let e : suc (top - 1) ≡ top = omega arith in
    subst (λ n. IsOnPlane n u) e (reads-plane (top - 1) bytes u (subst (λ n. 3 ≤ n) (sym e) high) (subst (λ n. Reads n bytes u) (sym e) r))

-- every file of a plane is a file of each wider one, with the same canonical text
pub wider_planes_keep_files : WiderPlanesKeepFiles
wider_planes_keep_files = λ top wider bytes u high wide most r. (
  says-wider top wider (lines_of bytes) u wide r,
  (wider_plane_keeps_texts top wider u high wide most (on-plane top bytes u high r)).0,
)

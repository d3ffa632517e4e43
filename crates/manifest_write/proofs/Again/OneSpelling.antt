-- The canonical text is read again, and so is the one spelling.
use Rattle.std.proofs.Common.{◌≡◌, Ok, sym, ap, ◌∙◌, subst}
use Rattle.std.specs.Prelude.{Result}
use Rattle.manifest_read.specs.declared.manifest.Manifest.{Manifest}
use Rattle.manifest_read.specs.declared.fault.ManifestFault.{ManifestFault}
use Rattle.manifest_read.specs.Manifest.{IsValid, manifest_of}
use Rattle.manifest_write.specs.Canon.{canonical_text}
use Rattle.manifest_write.proofs.Again.Spelled.{spelled-again}
use Rattle.manifest_write.proofs.Again.Valid.{valid-content}

pub again : (m : Manifest) → IsValid m → manifest_of (canonical_text m) ≡ Ok m
again m v =
    let t = valid-content m v in
    subst (λ (x : Manifest). manifest_of (canonical_text x) ≡ Ok x) t.is (spelled-again t.content t.fits)

ok-same : (m n : Manifest) → (let r : Result Manifest ManifestFault = Ok m in let s : Result Manifest ManifestFault = Ok n in r ≡ s) → m ≡ n
ok-same m n h = cc

pub same-text : (m n : Manifest) → IsValid m → IsValid n → canonical_text m ≡ canonical_text n → m ≡ n
same-text m n v w h = ok-same m n (sym (again m v) ∙ ap manifest_of h ∙ again n w)

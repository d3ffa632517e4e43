use Rattle.std.proofs.Common.{◌≡◌, ◌≤◌, ◌-◌, ◌+◌, length, drop, arith, rules}
use Rattle.std.proofs.lemmas.List.{drop_all, length-append, length-drop}
use Rattle.surf_outside.proofs.Copied.{drop-copied, length-copied}
use Rattle.surf_outside.proofs.mem_source.MemSourceSource.read.Goals as goal

pub returns-clause-bytes : goal.returns-clause-bytes
returns-clause-bytes c =
    let s = c.self.inside in
    let bytes = s.bytes.items in
    let n = c.min-n.result in
    let copied = c.copy_from_slice.new.self in
    let rest = drop n c.args.buf.now in
    let len : c.len.result ≡ length bytes = search rules in
    let fits : n ≤ length bytes - s.at = omega (arith, c.min-n.ensures, len) in
    let same = rw c.deref-2.ensures.value at c.copy_from_slice.ensures.after in
    let size = length-copied bytes copied s.at n fits same in
    rw (← c.self.view_is) (
      drop-copied bytes copied rest s.at n fits same,
      λ zero room. drop_all (s.at + n) bytes
          (omega (arith, zero, room, len, size, c.min-n.ensures, c.min.ensures, c.self.invariant, length-append copied rest, length-drop n c.args.buf.now)),
    )

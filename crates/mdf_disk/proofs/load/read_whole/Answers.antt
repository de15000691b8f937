use Rattle.std.proofs.Common.{◌≡◌, ℕ, List, length, drop, Option, Some, None, sym, ◌∙◌, ap, subst, arith, rules}
use Rattle.std.specs.Prelude.{IfSome}
use Rattle.std.proofs.lemmas.List.{take_at, take_all}
use Rattle.mdf_format.specs.Number.{bytes_at}
use Rattle.mdf_disk.proofs.load.read_whole.Goals as goal

-- as many bytes as the file has are the file
read_all : (old mid : Option (List ℕ)) (count : ℕ) (bytes : List ℕ) → mid ≡ old → IfSome old (λ file. count ≡ length file)
    → IfSome mid (λ file. bytes ≡ bytes_at count file 0) → IfSome old (λ file. bytes ≡ file)
read_all None mid count bytes same long read = tt
read_all (Some file) mid count bytes same long read =
    let is : bytes ≡ bytes_at count file 0 = subst (λ content. IfSome content (λ file. bytes ≡ bytes_at count file 0)) same read in
    is ∙ take_all count file (omega (arith, long))

pub returns-clause-bytes : goal.returns-clause-bytes
returns-clause-bytes g c =
    let content = g.D.Disk.content in
    let mid = content c.size.new.self in
    let items = c.in_ok-bytes.bytes.items in
    let read = c.read_at.new.buf in
    let len : c.in_ok-bytes.bytes.len ≡ length items = search rules in
    let long : length read ≡ length items = c.read_at.auto.buf ∙ ap length c.deref_mut.ensures.value in
    let whole : c.from_vec.result ≡ read = c.from_vec.ensures ∙ take_at read (drop (length read) items) c.in_ok-bytes.bytes.len (long ∙ sym len) in
    let count : length c.deref_mut.result.now ≡ c.in_ok-size.size = search rules in
    subst (λ bytes. IfSome (content c.args.disk.now) (λ file. bytes ≡ file)) (sym whole)
    (read_all (content c.args.disk.now) mid c.in_ok-size.size read c.size.ensures.content c.in_ok-size.ensures.size
    (subst (λ n. IfSome mid (λ file. read ≡ bytes_at n file 0)) count c.in_ok-read_at.ensures.bytes))

pub returns-clause-short : goal.returns-clause-short
returns-clause-short g c =
    let items = c.in_ok-bytes.bytes.items in
    let read = c.read_at.new.buf in
    let len : c.in_ok-bytes.bytes.len ≡ length items = search rules in
    let long : length read ≡ length items = c.read_at.auto.buf ∙ ap length c.deref_mut.ensures.value in
    let whole : c.from_vec.result ≡ read = c.from_vec.ensures ∙ take_at read (drop (length read) items) c.in_ok-bytes.bytes.len (long ∙ sym len) in
    let count : length c.deref_mut.result.now ≡ c.in_ok-size.size = search rules in
    omega (arith, ap length whole, c.read_at.auto.buf, count, c.if-size-limit.false)

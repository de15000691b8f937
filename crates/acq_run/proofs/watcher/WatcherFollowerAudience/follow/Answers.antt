use Rattle.std.proofs.Common.{max, take, sym, ◌∙◌, ap, subst, arith}
use Rattle.acq_run.specs.Audience.{tells_of}
use Rattle.acq_run.specs.Watching.{AnyLooked}
use Rattle.acq_run.proofs.Looks.{any_looked, nobody_looked, told_nobody, told_noted, watches_counted, watches_noted}
use Rattle.acq_run.proofs.watcher.WatcherFollowerAudience.follow.Goals as goal

pub returns-in-Some-clause-follows : goal.returns-in-Some-clause-follows
returns-in-Some-clause-follows c which seen is tells =
    let told = subst (λ note. tells_of note which (take c.args._shown seen)) c.in-Some.is tells in
    watches_noted c.args.self.now which c.args._shown seen c.in-Some.note is told.0 c.max-self.result c.saturating_add-self.result (c.max-self.ensures ∙ ap (max c.args.self.now.told) c.count.ensures)
    c.take.result c.any_looks.result (sym c.take.ensures.value) c.any_looks.ensures

pub returns-in_default-clause-follows : goal.returns-in_default-clause-follows
returns-in_default-clause-follows c which seen is tells = watches_counted c.args.self.now which seen c.saturating_add-self.result is

pub returns-in-Some-clause-heard : goal.returns-in-Some-clause-heard
returns-in-Some-clause-heard c =
    let looked = any_looked c.take.result c.any_looks.result c.in-Some.note c.any_looks.ensures in (
      omega (arith, c.saturating_add-self.ensures),
      (λ less. omega (arith, c.saturating_add-self.ensures, less)),
      told_noted c.args.self.now.reader c.requires.0 c.args._shown c.requires.1 c.in-Some.note c.requires.2.of_view c.requires.3
          (subst (λ note. tells_of note c.requires.0 (take c.args._shown c.requires.1)) c.in-Some.is c.requires.4) c.args.self.now.told c.max-self.result
          (c.max-self.ensures ∙ ap (max c.args.self.now.told) c.count.ensures),
      subst (λ before. AnyLooked before 1 c.any_looks.result) c.take.ensures.value looked,
    )

pub returns-in_default-clause-heard : goal.returns-in_default-clause-heard
returns-in_default-clause-heard c = (
  omega (arith, c.saturating_add-self.ensures),
  (λ less. omega (arith, c.saturating_add-self.ensures, less)),
  told_nobody c.args.self.now.reader c.requires.0 c.args.note _ c.args._shown c.args.self.now.told c.requires.2.of_view c.requires.4 c.in_default.not-Some,
  nobody_looked c.args.self.now.reader c.requires.0 c.args.note _ c.requires.2.of_view c.requires.4 c.in_default.not-Some,
)

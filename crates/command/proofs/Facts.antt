-- Facts of a shaped plan, of goals and of one command, as arrival uses them: their names, from the files that prove them.
-- Assumes nothing.
pub use Rattle.command.proofs.Shape.{Sound, sound-state}
pub use Rattle.command.proofs.Shape.{groups-length, group-below, move-below}
pub use Rattle.command.proofs.Upstream.{upstream-below, upstream-count, upstream-trans}
pub use Rattle.command.proofs.Goals.{present-below, met-allowed, live-mode}
pub use Rattle.command.proofs.Goals.{needs-allowed, needs-free, needs-hold, unmet-upstream, needs-fail}
pub use Rattle.command.proofs.Acts.{leading-from, leading-inside, move-answers, acting-is}
pub use Rattle.command.proofs.Acts.{applied-sound, applied-landing, applied-elsewhere, applied-live, applied-reply}
pub use Rattle.command.proofs.Shown.{Small, bytes_small}
pub use Rattle.command.proofs.Covers.{covered-exactly}

pub mod Bitmap
pub mod BitmapFlags
pub mod LevelFalls
pub mod Numbers
